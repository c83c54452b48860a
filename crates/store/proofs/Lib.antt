-- Laws of the store, for the cache and its history.
pub mod Bits
pub mod Held
pub mod Known
pub mod Places
pub mod View
