-- A reading is two decoders: what words are read as, and what halfwords are.
-- Assumes nothing.
use Rattle.std.specs.Prelude.{ℕ, Bool, leb, Option}
use Rattle.op.specs.declared.Op.{Op}

pub record Reading : Type 0 where
  pub of_word : ℕ → Option Op
  pub of_half : ℕ → Option Op

-- the numbers of the two readings that a call can be given: 0 is the Rust's, 1 the manual's
abbrev pub reading_known : ℕ → Bool
reading_known n = leb n 1
