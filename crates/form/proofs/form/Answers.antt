-- `form::form` meets its contract: judged first, and then formed from the bytes from the address to the end of its page.
use Rattle.std.proofs.Common.{◌≡◌, ◌≤◌, ◌+◌, ◌-◌, ◌%◌, ℕ, List, length, take, drop, sym, ap, ◌∙◌, arith}
use Rattle.block.proofs.Places.{GoodMemory, good_memory_lem, held, rest_is}
use Rattle.reading.specs.Readings.{reading_of}
use Rattle.form.specs.Forming.{ops_from}
use Rattle.form.specs.Call.{form_judged, formed_into, form_call}
use Rattle.std.proofs.lemmas.Option.{MatchOption-at_some}
use mathlib.Core.List.{[], append-nil}
use lib.ListN.{drop_of_length-le}
use lib.Seq.{take_all}
use Rattle.form.proofs.Judged.{begun}
use Rattle.form.proofs.form.Goals as goal
use Rattle.answer.specs.Answer.{done}

pub returns : goal.returns
unfolding form_call
returns c =
    let a = c.args in
    let size = length a.memory.now in
    let judged : form_judged a.reading size (length a.lent.now) a.base a.address ≡ done = sym c.judge_form.ensures ∙ c.in_ok-judge_form.was in
    let b = begun a.reading size (length a.lent.now) a.base a.address judged in
    let h = held size a.base a.address b.inner in
    let good : GoodMemory size a.base = good_memory_lem b.good in
    let from = a.address - a.base in
    let width : from + (4096 - a.address % 4096) - from ≡ 4096 - a.address % 4096 = omega arith in
    let bytes = ap (λ (n : ℕ). take n (drop from a.memory.now)) width ∙ rest_is a.memory.now a.base a.address good.based h.0 (omega arith) in
    let chunk = MatchOption-at_some _ _ _ c.unwrap.ensures c.first_chunk_mut.ensures.cases in
    let same : c.unwrap.result.now ≡ a.lent.now = chunk.same ∙ take_all 1040 a.lent.now (omega (arith, b.whole)) in
    let none : drop 1040 a.lent.now ≡ [] = (let long : length a.lent.now ≤ 1040 = omega (arith, b.whole) in drop_of_length-le a.lent.now long) in
    rw (judged, none, append-nil)
    (c.form_rest.ensures
    ∙ ap (λ (lent : List ℕ). formed_into done a.address (ops_from (reading_of a.reading) (take (from + (4096 - a.address % 4096) - from) (drop from a.memory.now)) 64 0) lent) same
    ∙ ap (λ (s : List ℕ). formed_into done a.address (ops_from (reading_of a.reading) s 64 0) a.lent.now) bytes)
