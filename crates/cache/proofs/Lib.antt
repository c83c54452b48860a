-- What the calls' checks have shown, what the calls leave of a store's view, and how notices follow each other and a flush.
pub mod Checks
pub mod View
pub mod Reports
pub mod Order
pub mod FlushAfter
