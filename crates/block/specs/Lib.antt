-- Where a block may stand, what its record is, and when a record is well formed.
pub mod Memory
pub mod Record
pub mod WellFormed
