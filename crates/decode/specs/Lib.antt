-- What decoding puts into lent bytes, and what the two decode calls answer and leave behind.
pub mod Call
