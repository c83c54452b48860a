-- `bits::bytes_at` meets its contract: the chunk is the whole part.
use Rattle.std.proofs.Common.{take, drop, ◌∙◌, arith}
use Rattle.std.proofs.lemmas.Option.{MatchOption-at_some}
use Rattle.std.proofs.Math.ListN.{length-take}
use Rattle.std.proofs.Math.Seq.{take_all}
use native.Mathlib.Nat.{add-sub_cancel_left}
use Rattle.bits.specs.Bytes.{part}
use Rattle.bits.proofs.bytes_at.Goals as goal

pub returns : goal.returns
unfolding part
returns g c =
    let a = c.args in
    let n = g.row.N in
    (MatchOption-at_some _ _ _ c.unwrap.ensures c.first_chunk.ensures.cases).same
    ∙ rw add-sub_cancel_left (take_all n (take n (drop a.at a.s.now)) (simp length-take (omega arith)))
