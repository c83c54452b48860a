-- What the cache's calls answer and leave behind.
pub mod Answers
pub mod Calls
