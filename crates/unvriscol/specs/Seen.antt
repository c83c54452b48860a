-- A call's outcome as C sees it: the number, and what stands beside it, are in the place of the answer.
-- Assumes nothing.
use Rattle.std.specs.Prelude.{ℕ, List}
use Rattle.answer.specs.Answer.{Answer, answer_number}
use Rattle.cache.specs.Answers.{reported}
use Rattle.cache.specs.declared.Report.{Report}

abbrev pub both : {A : Type 0} → (A → ℕ) → (A → ℕ) → A → ℕ × ℕ
both number value answer = (number answer, value answer)

-- of a notice, of a list of them, and of a guest write: the number, the slots examined, the places dropped
abbrev pub report_seen : Answer Report → ℕ × ℕ × ℕ
report_seen answer = (answer_number answer, (reported answer).examined, (reported answer).dropped)

-- of a call that is lent one buffer to change, and of one that is lent two
abbrev pub seen : {A B : Type 0} → (A → B) → A × List ℕ → B × List ℕ
seen see outcome = (see outcome.0, outcome.1)

abbrev pub seen_with_two : {A B : Type 0} → (A → B) → A × List ℕ × List ℕ → B × List ℕ × List ℕ
seen_with_two see outcome = (see outcome.0, outcome.1, outcome.2)
