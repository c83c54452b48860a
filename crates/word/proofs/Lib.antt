-- What follows from the Rust reading of words.
pub mod Read
