-- What bits and bytes of numbers mean, for every crate above.
pub mod Bits
pub mod Bytes
pub mod Count
pub mod Match
