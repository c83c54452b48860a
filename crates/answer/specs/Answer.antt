-- What a call answers, and the number of each answer (docs/FORMATS.md).
-- Assumes nothing.
use Rattle.std.specs.Prelude.{ℕ, Result, Ok, Err}
use Rattle.answer.specs.declared.Refusal.{Refusal}
use Rattle.answer.specs.declared.Refusal.TheVariants.{NoStore, BadGeometry, OutsideMemory, NoOp, IllFormed, WrongBuffer, NoKind, WrongWriteSize, NothingFound}

-- a value, or why the call is refused
abbrev pub Answer : Type 0 → Type 0
Answer T = Result T Refusal

-- of a call that has nothing beside its number, the answer where it was done
abbrev pub done : Answer (Unit {0})
done = Ok tt

abbrev pub refusal_number : Refusal → ℕ
refusal_number NoStore = 1
refusal_number BadGeometry = 2
refusal_number OutsideMemory = 3
refusal_number NoOp = 4
refusal_number IllFormed = 5
refusal_number WrongBuffer = 6
refusal_number NoKind = 7
refusal_number WrongWriteSize = 8
refusal_number NothingFound = 9

abbrev pub answer_number : {T : Type 0} → Answer T → ℕ
answer_number (Ok value) = 0
answer_number (Err why) = refusal_number why

-- the number beside an answer's, which is 0 beside every number but 0
abbrev pub answer_value : Answer ℕ → ℕ
answer_value (Ok value) = value
answer_value (Err why) = 0
