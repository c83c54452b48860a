-- Laws of bits and bytes, for every crate above.
pub mod Bit
pub mod Bytes
pub mod Cases
pub mod Count
pub mod Every
pub mod Once
pub mod Shift
pub mod Sign
pub mod Signed
pub mod Tests
