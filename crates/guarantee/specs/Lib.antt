-- What any history of calls guarantees: the calls, what they tell of a store's past, when a store stands for one, and what an insertion must hold.
pub mod Calls
pub mod Past
pub mod Stands
pub mod Answers
pub mod Honest
pub mod Hits
pub mod Worthless
