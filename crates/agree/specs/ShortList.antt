-- The list of reserved halfwords that the customer gave, which was short of two entries, 32 halfwords; for a statement about blocks alone (docs/DIFFERENCES.md): no call reads by it.
-- Assumes nothing.
use Rattle.std.specs.Prelude.{ℕ, cond, List, [], ◌∷◌, eqb, pos, Option}
use Rattle.op.specs.declared.AluKind.TheVariants.{Add}
use Rattle.op.specs.declared.Op.{Op}
use Rattle.op.specs.declared.Op.TheVariants.{Lui, AluImm}
use Rattle.halfword.specs.Instruction.{rd}
use Rattle.halfword.specs.Halfword.{rust_half}
use Rattle.manual.specs.Halfwords.{manual_half}
use Rattle.agree.specs.Differences.{Entry, listed, addiw0, addi16sp0, lui0, lwsp0, ldsp0, jr0}

-- what it had, and what it had not
abbrev pub short_entries : List Entry
short_entries = addiw0 ∷ lwsp0 ∷ ldsp0 ∷ jr0 ∷ []

abbrev pub missed_entries : List Entry
missed_entries = addi16sp0 ∷ lui0 ∷ []

-- the manual's reading, but the missed halfwords as the Rust decodes them
abbrev pub short_half : ℕ → Option Op
short_half w = cond (listed missed_entries w) (rust_half w) (manual_half w)

-- what the Rust decodes one of them as
abbrev pub missed_op : ℕ → Op
missed_op w = cond (eqb (rd w) 2) (AluImm Add 2 2 (pos 0)) (Lui (rd w) (pos 0))
