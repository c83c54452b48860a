-- The one statement over the table of values.
pub mod Values
