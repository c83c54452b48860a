-- How we know that the ALU keeps its promises.
pub mod Bytes
pub mod Turned
