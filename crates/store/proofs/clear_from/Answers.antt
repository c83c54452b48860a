-- `store::clear_from` meets its contract: the part that was lent comes back as zeros.
use Rattle.std.proofs.Common.{ℕ, ◌-◌, length, replicate, ap, ◌∙◌, arith}
use lib.ListN.{length-replicate}
use Rattle.bits.specs.Bytes.{part}
use Rattle.bits.proofs.Bytes.{put_part, length_part}
use Rattle.store.proofs.clear_from.Goals as goal

pub returns : goal.returns
unfolding part
returns c =
    let a = c.args in
    let n = length a.store.now - a.at in
    put_part a.store.now a.at n _ (replicate n 0)
    (c.fill.ensures.after (λ y e. e) ∙ ap (λ (k : ℕ). replicate {A = ℕ} k 0) (length_part a.store.now a.at n (omega arith)))
    (length-replicate {A = ℕ} n 0)
