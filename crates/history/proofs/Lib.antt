-- Theorems on histories.
pub mod Bound
pub mod Sentences
pub mod Places
pub mod Dropped
