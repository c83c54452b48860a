-- What a history says: which record a lookup shows, which pages are marked, what notices cost.
pub mod History
