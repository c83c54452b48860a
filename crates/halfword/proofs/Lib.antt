-- What follows from the Rust reading of halfwords.
pub mod Read
