-- What the two decode calls share.
pub mod Answered
