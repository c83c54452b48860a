-- The call on a kind's number.
-- Assumes nothing.
use Rattle.std.specs.Prelude.{ℕ, map, slice_index_or, Err}
use Rattle.answer.specs.declared.Refusal.TheVariants.{NoKind}
use Rattle.answer.specs.Answer.{Answer}
use Rattle.op.specs.Kinds.{alu_kinds}
use Rattle.op.specs.declared.AluKind.{AluKind}
use Rattle.alu.specs.Rust.{rust_alu}

abbrev pub alu_call : ℕ → ℕ → ℕ → Answer ℕ
alu_call n a b = slice_index_or (map (λ (kind : AluKind). rust_alu kind a b) alu_kinds) n (Err NoKind)
