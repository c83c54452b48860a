-- The list of differences between the Rust reading and the manual's, the customer's list that was short of two entries, and the manual's ALU as an answer.
pub mod Alu
pub mod Differences
pub mod ShortList
