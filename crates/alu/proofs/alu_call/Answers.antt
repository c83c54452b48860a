-- `alu::alu_call` meets its contract: the kind at the number, and its answer.
use Rattle.std.proofs.Common.{◌≡◌, ℕ, map, sym, ap, ◌∙◌, Option, Some, None, Err}
use lib.ListN.{get_or-map}
use Rattle.answer.specs.Answer.{Answer}
use Rattle.answer.specs.declared.Refusal.TheVariants.{NoKind}
use Rattle.op.specs.Kinds.{alu_kinds, kind_at}
use Rattle.op.specs.declared.AluKind.{AluKind}
use Rattle.alu.specs.Rust.{rust_alu}
use Rattle.alu.specs.Call.{alu_call}
use Rattle.alu.proofs.alu_call.Goals as goal

abbrev answer_of : ℕ → ℕ → Option AluKind → Answer ℕ
answer_of a b (Some kind) = rust_alu kind a b
answer_of a b None = Err NoKind

called : (n a b : ℕ) (k : Option AluKind) → k ≡ kind_at n → answer_of a b k ≡ alu_call n a b
called n a b k found = ap (answer_of a b) found ∙ sym (get_or-map (answer_of a b) (map Some alu_kinds) n None)

pub returns-in_default : goal.returns-in_default
returns-in_default c =
    let a = c.args in
    sym (ap (answer_of a.lhs a.rhs) c.in_default.is) ∙ called a.kind a.lhs a.rhs c.kind_at.result c.kind_at.ensures

pub returns : goal.returns
returns c =
    let a = c.args in
    c.alu.ensures ∙ sym (ap (answer_of a.lhs a.rhs) c.in-Some.is) ∙ called a.kind a.lhs a.rhs c.kind_at.result c.kind_at.ensures
