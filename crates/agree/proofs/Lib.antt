-- The theorems: of words and of halfwords that the entries tell the two readings, `agree`, `differ`, `unlike` and `manual-is`; and `agree` of the ALU, where no
-- difference is known; and what the customer's short list of reserved halfwords missed.
pub mod Alu
mod AluBits
mod AluBytes
mod AluCounts
mod AluSigns
pub mod Entries
mod Formats
pub mod ToldHalfwords
pub mod ToldWords
pub mod Halfwords
pub mod Words
pub mod ShortList
