-- `reading::read_halfword` meets its contract: what the manual reserves has no op, and all else is the Rust's.
use Rattle.std.proofs.Common.{◌≡◌, ◌&&◌, eqb, ℕ, Bool, true, false, cond, refl}
use Rattle.halfword.specs.Halfword.{rust_half}
use Rattle.agree.specs.Differences.{listed, half_entries}
use Rattle.agree.proofs.Halfwords.{half_is}
use Rattle.reading.specs.Readings.{rust, manual, reading_of}
use Rattle.reading.proofs.read_halfword.Goals as goal
use Rattle.std.specs.Prelude.{None}

reads : (reading raw : ℕ) → (reading_of reading).of_half raw ≡ cond (eqb reading 1 && listed half_entries raw) None (rust_half raw)
unfolding reading_of
reads reading raw = by (eqb reading 1)
  where
    by : (b : Bool) → (cond b manual rust).of_half raw ≡ cond (b && listed half_entries raw) None (rust_half raw)
    by true = half_is raw
    by false = refl

pub returns-then-reserved_in : goal.returns-then-reserved_in
returns-then-reserved_in c = let a = c.args in rw (reads a.reading a.raw, ← c.reserved_in.ensures, c.if-reserved_in.true) refl

pub returns : goal.returns
returns c = let a = c.args in rw (reads a.reading a.raw, ← c.reserved_in.ensures, c.if-reserved_in.false) c.decode_compressed.ensures
