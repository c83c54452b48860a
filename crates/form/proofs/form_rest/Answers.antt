-- `form::form_rest` meets its contract.
use Rattle.std.proofs.Common.{List, ℕ, sym, ap, ◌∙◌}
use Rattle.reading.specs.Readings.{reading_of}
use Rattle.form.specs.Forming.{ops_from}
use Rattle.form.proofs.Seal.{refused, sealed}
use Rattle.form.proofs.form_rest.Goals as goal
use Rattle.answer.specs.Answer.{done}

pub returns-then-count-eq0 : goal.returns-then-count-eq0
returns-then-count-eq0 c =
    let a = c.args in
    let ops = c.form_ops-block in
    refused a.address (ops_from (reading_of a.reading) a.s.now 64 0) a.lent.now ops.new.lent (sym ops.ensures.counted ∙ c.if-count-eq0.true) ops.ensures.written

pub returns : goal.returns
returns c =
    let a = c.args in
    let ops = c.form_ops-block in
    ap (λ (s : List ℕ). (done, s)) c.put_head.ensures
    ∙ sealed a.address (ops_from (reading_of a.reading) a.s.now 64 0) a.lent.now ops.new.lent c.fill.new.self
    ops.result.count ops.result.len c.if-count-eq0.false c.told-lent ops.ensures (c.fill.ensures.after (λ y e. e))
