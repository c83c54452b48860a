-- What answers mean, as numbers.
pub mod Answer
