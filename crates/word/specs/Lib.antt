-- What the Rust reads a word as.
pub mod Instruction
pub mod Word
