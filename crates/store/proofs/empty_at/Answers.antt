-- `store::empty_at` meets its contract: the part that was lent comes back as the definition has it.
use Rattle.std.proofs.Common.{ℕ, ◌+◌, cond, ap, ◌∙◌}
use native.Mathlib.Nat.{add-sub_cancel_left}
use Rattle.bits.specs.Bytes.{part}
use Rattle.bits.proofs.Bytes.{put_back, length_part}
use Rattle.store.specs.Places.{in_page, emptied}
use Rattle.store.proofs.Places.{length-emptied}
use Rattle.store.proofs.empty_at.Goals as goal

pub returns : goal.returns
unfolding part
returns c =
    let a = c.args in
    let lent = part a.store.now a.at a.stride in
    let long = length_part a.store.now a.at a.stride c.requires.1 in
    let same = add-sub_cancel_left a.at a.stride in (
      c.empty_if.ensures.0 ∙ ap (λ (n : ℕ). a.dropped + cond {A = ℕ} (in_page a.page (part a.store.now a.at n)) 1 0) same,
      put_back a.store.now a.at a.stride _ (emptied a.page lent)
          (c.empty_if.ensures.1 ∙ ap (λ (n : ℕ). emptied a.page (part a.store.now a.at n)) same)
          (length-emptied a.page lent (rw long c.requires.0) ∙ long),
    )
