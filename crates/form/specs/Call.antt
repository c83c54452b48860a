-- The form call, by the number of a reading: the answer, and the lent record afterwards.
-- Assumes nothing.
use Rattle.std.specs.Prelude.{ℕ, cond, not, List, [], ◌∷◌, eqb, length, Ok, Err}
use Rattle.answer.specs.declared.Refusal.TheVariants.{BadGeometry, OutsideMemory, NoOp, WrongBuffer}
use Rattle.op.specs.Reading.{reading_known}
use Rattle.reading.specs.Readings.{reading_of}
use Rattle.block.specs.Memory.{good_memory, in_memory}
use Rattle.block.specs.Record.{Insn, block_record}
use Rattle.form.specs.Forming.{formed}
use Rattle.answer.specs.Answer.{Answer, done}

-- 2, 6, 3, by the reading, the lengths of the memory and of the lent record, the base and the address; done where forming may begin
abbrev pub form_judged : ℕ → ℕ → ℕ → ℕ → ℕ → Answer (Unit {0})
form_judged reading len room base address =
    cond (not (reading_known reading)) (Err BadGeometry)
    (cond (not (good_memory len base)) (Err BadGeometry)
    (cond (not (eqb room 1040)) (Err WrongBuffer)
    (cond (not (in_memory len base address)) (Err OutsideMemory) done)))

-- then the block, or 4 where it has no ops
abbrev pub formed_into : Answer (Unit {0}) → ℕ → List Insn → List ℕ → Answer (Unit {0}) × List ℕ
formed_into (Err why) address ops lent = (Err why, lent)
formed_into (Ok tt) address [] lent = (Err NoOp, lent)
formed_into (Ok tt) address (first ∷ rest) lent = (done, block_record address (first ∷ rest))

unfoldable pub form_call : ℕ → List ℕ → ℕ → ℕ → List ℕ → Answer (Unit {0}) × List ℕ
form_call reading memory base address lent =
    formed_into (form_judged reading (length memory) (length lent) base address) address (formed (reading_of reading) memory base address) lent
