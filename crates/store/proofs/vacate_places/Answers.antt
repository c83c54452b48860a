-- `store::vacate_places` meets its contract: after i turns the first i places have the address, and `at` is where the next begins.
use Rattle.std.proofs.Common.{◌+◌, ◌*◌, ◌≤◌, length, List, ℕ, sym, ◌∙◌, ap₂, add-one, arith}
use native.Mathlib.Nat.{mul-suc}
use Rattle.bits.specs.Bytes.{le, patch}
use Rattle.bits.proofs.Bytes.{length-le, patch-part}
use Rattle.store.specs.Places.{vacated, each_place}
use Rattle.store.proofs.Places.{walking_begins, next_fits}
use Rattle.store.proofs.vacate_places.Goals as goal

pub loop-i-init : goal.loop-i-init
loop-i-init c = walking_begins _ _ _ _

-- one more place has the address
pub loop-i-preserved : goal.loop-i-preserved
unfolding each_place vacated
loop-i-preserved c =
    let l = c.loop-i in
    let a = c.args in
    let fits : l.at + a.stride ≤ length l.store = next_fits a.first a.stride a.n l._i l.at (length l.store) l.invariant.0 c.loop-i-test.true (omega arith) in
    let address = le 8 0xFFFF_FFFF_FFFF_FFFF in
    let so_far = each_place vacated a.first a.stride l._i a.store.now in (
      rw (add-one, mul-suc) (omega arith),
      c.put_doubleword.ensures
          ∙ ap₂ (λ (t : List ℕ) (k : ℕ). patch t k address) l.invariant.1 l.invariant.0
          ∙ sym (patch-part so_far (a.first + a.stride * l._i) a.stride address (rw (l.invariant.0, l.invariant.1) at fits) (rw length-le c.requires.0))
          ∙ rw add-one,
    )
