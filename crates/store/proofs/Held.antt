-- What a place holds for a record: as long as a place, with the record's address at its start; and it shows that record again. Nothing above these laws
-- knows that a place is its record's bytes.
-- Assumes nothing.
use Rattle.std.proofs.Common.{◌≡◌, ℕ, true, List, length, refl, ap, ◌∙◌}
use Rattle.bits.specs.Bytes.{doubleword_at}
use Rattle.block.specs.WellFormed.{well_formed}
use Rattle.block.proofs.Head.{says}
use Rattle.store.specs.Layout.{opened}
use Rattle.store.specs.Places.{place_for, record_in}
use Rattle.store.specs.declared.Geometry.{Geometry}
use Rattle.store.proofs.Known.{opened_says}
use Rattle.std.specs.Prelude.{Some}

module _ (g : Geometry) (rec : List ℕ) where
  pub place_long : (s : List ℕ) → opened s ≡ Some g → length rec ≡ 1040 → length (place_for g rec) ≡ g.stride
  unfolding place_for
  place_long s h l = l ∙ ap (λ (z : Geometry). z.stride) (opened_says s g h).is

  module _ (a : ℕ) (w : well_formed rec a ≡ true) where
    pub place_named : doubleword_at (place_for g rec) 0 ≡ a
    unfolding place_for
    place_named = (says w).0.addressed

    pub record_back : record_in g (place_for g rec) ≡ rec
    unfolding place_for record_in
    record_back = refl
