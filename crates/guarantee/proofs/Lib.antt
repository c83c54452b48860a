-- What any history guarantees: the simulation of a store by its past, and what follows.
pub mod Simulation
pub mod Lookup
pub mod Run
pub mod Guarantee
pub mod Spent
pub mod Batch
pub mod Dropped
pub mod Fresh
pub mod Reading
pub mod Worthless
