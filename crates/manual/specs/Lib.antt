-- The manual's figures, its listings of words and of halfwords, and what it says of the ALU's kinds.
pub mod Alu
pub mod Figures
pub mod Halfwords
pub mod Words
