-- A word's answer in the manual's reading, from what the decoder found there: its own, or the Rust's.
-- Assumes nothing.
use Rattle.std.specs.Prelude.{Option, unwrap_or}
use Rattle.op.specs.declared.Op.{Op}

abbrev pub or_rust : Option (Option Op) → Option Op → Option Op
or_rust apart rust = unwrap_or apart rust
