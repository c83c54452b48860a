-- `store::empty_places` meets its contract: after i turns the first i places are done and counted, and `at` is where the next begins.
use Rattle.std.proofs.Common.{◌≤◌, refl, ◌∙◌, add-one, arith}
use native.Mathlib.Nat.{mul-suc}
use Rattle.bits.specs.Count.{count}
use Rattle.bits.proofs.Count.{count-le}
use Rattle.store.specs.Places.{each_place}
use Rattle.store.proofs.Places.{walking_begins, next_fits, counting}
use Rattle.store.proofs.empty_places.Goals as goal

pub loop-i-init : goal.loop-i-init
unfolding count
loop-i-init c = (walking_begins _ _ _ _, refl)

pub empty_at-dropped-requires : goal.empty_at-dropped-requires
empty_at-dropped-requires c =
    let l = c.loop-i in
    let few : l.dropped ≤ l._i = rw l.invariant.1 (count-le _ _) in
    (c.requires.0, next_fits _ _ _ _ _ _ l.invariant.0.0 c.loop-i-test.true (omega arith), omega arith)

pub loop-i-preserved : goal.loop-i-preserved
unfolding each_place
loop-i-preserved c =
    let l = c.loop-i in (
      (rw (add-one, mul-suc) (omega arith), c.empty_at-dropped.ensures.1 ∙ rw (add-one, l.invariant.0.0, l.invariant.0.1)),
      c.empty_at-dropped.ensures.0 ∙ counting _ _ _ _ _ _ _ _ _ l.invariant.0 c.loop-i-test.true c.requires.0 c.requires.1 l.invariant.1,
    )
