-- The ops that a block is formed of, and what the form call answers and leaves behind.
pub mod Forming
pub mod Walk
pub mod Written
pub mod Call
pub mod ShortList
pub mod ProperReading
