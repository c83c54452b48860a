-- The values marked P, as one table.
pub mod Values
