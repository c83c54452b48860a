-- The walk of a block, from op to op through the bytes from its address to the end of the page: what it meets before it ends.
-- Assumes nothing.
use Rattle.std.specs.Prelude.{ℕ, zero, suc, ◌+◌, Bool, false, cond, ◌||◌, List, eqb, ltb, length, Option, Some, None}
use Rattle.bits.specs.Bytes.{halfword_at, word_at}
use Rattle.op.specs.Reading.{Reading}
use Rattle.op.specs.Record.{op_fields}
use Rattle.agree.specs.Differences.{listed, word_entries, half_entries}
use Rattle.reading.specs.Readings.{rust}
use Rattle.block.specs.Memory.{rest_of_page}
use Rattle.block.specs.WellFormed.{jumps}
use Rattle.form.specs.Forming.{ilen_at, op_at}
use Rattle.op.specs.declared.Op.{Op}

-- the block goes on behind an op that does not jump
abbrev pub goes_on : Option Op → Bool → Bool
goes_on None next = false
goes_on (Some op) next = cond (jumps (op_fields op).op) false next

-- one of at most n offsets where the block has an op, or ends for want of one, is asked for
unfoldable pub meets : (ℕ → Bool) → Reading → List ℕ → ℕ → ℕ → Bool
meets asked reading s zero at = false
meets asked reading s (suc n) at = asked at || goes_on (op_at reading s at) (meets asked reading s n (at + ilen_at s at))

-- one of these halfwords, or of these words, stands at an offset of s
abbrev pub stands_at : (ℕ → Bool) → (ℕ → Bool) → List ℕ → ℕ → Bool
stands_at halves words s at =
    cond (ltb (length s) (at + 2)) false
    (cond (eqb (ilen_at s at) 2) (halves (halfword_at s at))
    (cond (ltb (length s) (at + 4)) false (words (word_at s at))))

-- the walk from an address of a memory meets what is asked for
abbrev pub walk_meets : (List ℕ → ℕ → Bool) → Reading → List ℕ → ℕ → ℕ → Bool
walk_meets asked reading memory base address = meets (asked (rest_of_page memory base address)) reading (rest_of_page memory base address) 64 0

-- and an entry of docs/DIFFERENCES.md
abbrev pub meets_difference : List ℕ → ℕ → ℕ → Bool
meets_difference = walk_meets (stands_at (listed half_entries) (listed word_entries)) rust
