-- What the ALU answers: the Rust's reading, and the call on a kind's number.
pub mod Rust
pub mod Call
