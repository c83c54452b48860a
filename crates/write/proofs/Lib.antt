-- What the checks of a write have shown.
pub mod Granted
