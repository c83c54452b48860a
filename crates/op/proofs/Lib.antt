-- Laws of ops, their kinds and their records.
pub mod Fallback
pub mod Numbers
pub mod Proper
pub mod Record
