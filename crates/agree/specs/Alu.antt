-- What the manual says of an ALU kind, as the ALU answers it.
-- Assumes nothing.
use Rattle.std.specs.Prelude.{ℕ, Ok, Err}
use Rattle.std.proofs.Math.Option.{Option, none, some}
use Rattle.answer.specs.declared.Refusal.TheVariants.{NoKind}
use Rattle.answer.specs.Answer.{Answer}

abbrev pub answer : Option ℕ → Answer ℕ
answer none = Err NoKind
answer (some v) = Ok v
