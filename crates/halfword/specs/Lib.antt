-- What the Rust reads a halfword as.
pub mod Instruction
pub mod Halfword
