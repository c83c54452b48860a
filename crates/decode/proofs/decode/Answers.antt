-- `decode::decode` meets its contract: only a buffer of a record's length is written to.
use Rattle.std.proofs.Common.{◌≡◌, length, sym, ◌∙◌, Some, arith}
use Rattle.answer.specs.Answer.{done}
use Rattle.decode.specs.Call.{decode_judged}
use Rattle.decode.proofs.Answered.{recorded, sixteen}
use Rattle.decode.proofs.decode.Goals as goal

pub returns : goal.returns
returns g c =
    let a = c.args in
    let judged : decode_judged a.reading (length a.lent.now) ≡ done = sym c.judge_decode.ensures ∙ c.in_ok-judge_decode.was in
    let put : c.put.result ≡ Some c.in_ok-ok_or.field-0 = grind arith in
    rw judged (recorded a.lent.now (sixteen a.reading (length a.lent.now) judged) g.E.Encoded.ILEN _ put c.put.ensures)
