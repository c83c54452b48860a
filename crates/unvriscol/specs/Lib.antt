-- What C sees of a call's outcome.
pub mod Seen
