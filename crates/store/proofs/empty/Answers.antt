-- `store::empty` meets its contract: zeros, and then the address.
use Rattle.std.proofs.Common.{List, ℕ, ap, ◌∙◌}
use Rattle.bits.specs.Bytes.{le, patch}
use Rattle.store.proofs.Places.{empty_made}
use Rattle.store.proofs.empty.Goals as goal

pub returns : goal.returns
returns c = c.put_doubleword.ensures ∙ ap (λ (l : List ℕ). patch l 0 (le 8 0xFFFF_FFFF_FFFF_FFFF)) (c.fill.ensures.after (λ y e. e)) ∙ empty_made _ c.requires
