-- What a list of notices does, one more at a time; that its sums are small; and that only its pages matter.
pub mod Sums
pub mod Order
