-- A lookup in a store that stands for a past answers what the past says, and returns the place of what it shows.
-- Assumes nothing.
use mathlib.Core.Path.{◌≡◌, refl, sym, ap, ◌∙◌}
use mathlib.Core.Bool.{Bool, true, false, cond, ◌&&◌}
use mathlib.Core.List.{List}
use mathlib.Core.Option.{Option, none, some}
use Prim.Native.Nat.{ℕ}
use native.Mathlib.Omega.{arith}
use lib.Dec.{eqb}
use borrow.Author.Tests.{eqb-true, ne_eqb}
use Rattle.bits.specs.Bytes.{doubleword_at}
use Rattle.bits.proofs.Bytes.{doubleword_part}
use Rattle.store.specs.Layout.{holds, slot_of, Bounded}
use Rattle.store.specs.declared.Geometry.{Geometry}
use Rattle.store.proofs.Known.{holds_are, slot_lt}
use Rattle.store.proofs.Places.{empty_address}
use Rattle.cache.specs.Calls.{place_of, lookup_call}
use Rattle.cache.specs.Answers.{lookup_part, hit_at}
use Rattle.answer.specs.declared.Refusal.TheVariants.{NothingFound}
use Rattle.cache.proofs.Checks.{opened-fits}
use Rattle.history.specs.History.{Event, shown}
use Rattle.history.proofs.Places.{Place, empty, full, found, places, answers}
use Rattle.guarantee.specs.Past.{page_of}
use Rattle.guarantee.specs.Stands.{Stands}
use Rattle.guarantee.specs.Answers.{lookup_answered, part_for}
use Rattle.guarantee.proofs.Simulation.{bytes_of, Fitted, fitted, place_is}
use Rattle.answer.specs.Answer.{Answer}
use Rattle.cache.specs.declared.Hit.{Hit}
use Rattle.std.specs.Prelude.{Ok, Err}

module _ (g : Geometry) (h : List Event) (s : List ℕ) (y : Stands g h s) (a : ℕ) where
  bounds : Bounded g
  bounds = (opened-fits s g y.sound).bounds

  -- the answer, by the address that the place holds
  answer : ℕ → Answer Hit
  answer b = cond (holds g a && eqb b a) (hit_at (place_of g a) g.stride) (Err NothingFound)

  nothing_empty : (t : Bool) → holds g a ≡ t → (t && eqb 0xFFFF_FFFF_FFFF_FFFF a) ≡ false
  nothing_empty true e = ne_eqb 0xFFFF_FFFF_FFFF_FFFF a (λ q. omega (arith, holds_are g a e, bounds.below))
  nothing_empty false e = refl

  by_place : (k : Place) → Fitted g k → answer (doubleword_at (bytes_of g k) 0) ≡ lookup_answered g a (found k a)
  unfolding answer
  by_place empty w = rw (empty_address g.stride, nothing_empty (holds g a) refl)
  by_place (full b r) w = rw w.named (go (eqb b a) refl)
    where
      go : (t : Bool) → eqb b a ≡ t → cond (holds g a && t) (hit_at (place_of g a) g.stride) (Err NothingFound) ≡ lookup_answered g a (cond t (some r) none)
      go true q = rw (ap (holds g) (sym (eqb-true b a q)) ∙ w.able)
      go false q = none_shown (holds g a)
        where
          none_shown : (t : Bool) → cond (t && false) (hit_at (place_of g a) g.stride) (Err NothingFound) ≡ Err NothingFound
          none_shown true = refl
          none_shown false = refl

  pub lookup-is : lookup_call s a ≡ lookup_answered g a (shown (slot_of g) page_of h a)
  unfolding answer
  lookup-is =
      rw y.sound
      (ap answer (sym (doubleword_part s (place_of g a) g.stride (omega (arith, bounds.room))) ∙ ap (λ (p : List ℕ). doubleword_at p 0) (place_is g h s y (slot_of g a) (slot_lt g a)))
      ∙ by_place (places (slot_of g) page_of h (slot_of g a)) (fitted g h s y (slot_of g a))
      ∙ ap (lookup_answered g a) (answers (slot_of g) page_of h a))

  pub lookup_returns : lookup_part s (lookup_call s a) ≡ part_for g (shown (slot_of g) page_of h a)
  lookup_returns = ap (lookup_part s) lookup-is ∙ go (shown (slot_of g) page_of h a) refl
    where
      go : (o : Option (List ℕ)) → shown (slot_of g) page_of h a ≡ o → lookup_part s (lookup_answered g a o) ≡ part_for g o
      go (some r) e = y.full a r e
      go none e = refl
