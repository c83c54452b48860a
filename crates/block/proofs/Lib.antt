-- Laws of block records.
pub mod Head
pub mod Places
pub mod Records
pub mod Tests
pub mod Walk
pub mod Zeros
