-- The two readings that the calls take, by their numbers: 0 is the Rust's, 1 the manual's.
-- Assumes nothing.
use Rattle.std.specs.Prelude.{ℕ, cond, eqb}
use Rattle.op.specs.Reading.{Reading}
use Rattle.word.specs.Word.{rust_word}
use Rattle.halfword.specs.Halfword.{rust_half}
use Rattle.manual.specs.Words.{manual_word}
use Rattle.manual.specs.Halfwords.{manual_half}

abbrev pub rust : Reading
rust = record { of_word = rust_word; of_half = rust_half }

abbrev pub manual : Reading
manual = record { of_word = manual_word; of_half = manual_half }

-- a number that is known to no call reads as the Rust; every call refuses it first
unfoldable pub reading_of : ℕ → Reading
reading_of n = cond (eqb n 1) manual rust
