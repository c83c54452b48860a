-- The two readings, by their numbers.
pub mod Readings
pub mod Apart
