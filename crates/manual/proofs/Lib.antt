-- Examples from outside, which hold of the definitions.
pub mod Examples
