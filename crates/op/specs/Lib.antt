-- What an op's kind and record are, in the numbers of docs/FORMATS.md.
pub mod Kinds
pub mod Proper
pub mod Reading
pub mod Record
pub mod WellFormed
