-- What the bytes of a cache store mean.
pub mod Layout
pub mod Places
