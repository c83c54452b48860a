-- What an accepted call's checks have shown.
-- Assumes nothing.
use mathlib.Core.Path.{◌≡◌, refl, sym, subst}
use mathlib.Core.Bool.{Bool, true, false, cond, ◌&&◌}
use mathlib.Core.List.{List}
use Prim.Native.Nat.{ℕ, ◌+◌, ◌≤◌}
use native.Mathlib.Omega.{arith}
use lib.Dec.{eqb}
use lib.ListN.{length, take, length-append}
use lib.Seq.{take_at}
use borrow.Author.Tests.{eqb-true}
use Rattle.bits.specs.Bytes.{doubleword_at, patch}
use Rattle.bits.proofs.Bytes.{length-le}
use Rattle.block.specs.WellFormed.{well_formed}
use Rattle.store.specs.Layout.{header, in_bounds, store_len, geometry, opened, Fitting, holds, slot_of}
use Rattle.store.specs.declared.Geometry.{Geometry}
use Rattle.store.proofs.Known.{bounds_are, opened_says, place_fits, slot_lt}
use Rattle.cache.specs.Calls.{make_judged, place_of, lookup_by, lookup_call, insert_judged}
use Rattle.answer.specs.Answer.{Answer}
use Rattle.answer.specs.declared.Refusal.{Refusal}
use Rattle.cache.specs.declared.Hit.{Hit}
use Rattle.answer.specs.declared.Refusal.TheVariants.{NoStore, BadGeometry, OutsideMemory, IllFormed, WrongBuffer, NothingFound}
use Rattle.std.specs.Prelude.{Option, Some, None, Ok, Err}

-- what is rejected is not accepted
pub rejected : {why : Refusal} {g : Geometry} → Err why ≡ Ok g → ⊥
rejected q = let z : ◌≡◌ {A = ℕ} 0 1 = cc in omega arith

module _ (reading e base pages : ℕ) (s : List ℕ) (g : Geometry) where
  pub make-fits : make_judged reading e base pages (length s) ≡ Ok g → Fitting g s
  make-fits h = go (in_bounds reading e base pages) refl (eqb (length s) (store_len (geometry reading e base pages))) refl h
    where
      go : (x : Bool) → in_bounds reading e base pages ≡ x → (y : Bool) → eqb (length s) (store_len (geometry reading e base pages)) ≡ y → cond x (cond y (Ok (geometry reading e base pages)) (Err NoStore)) (Err BadGeometry) ≡ Ok g → Fitting g s
      go true ex true ey k =
          let q : geometry reading e base pages ≡ g = cc in
          subst (λ (z : Geometry). Fitting z s) q (record { bounds = bounds_are reading e base pages ex; exact = eqb-true _ _ ey })
      go true ex false ey k = absurd (rejected k)
      go false ex y ey k = absurd (rejected k)

pub opened-fits : (s : List ℕ) (g : Geometry) → opened s ≡ Some g → Fitting g s
opened-fits s g h = (opened_says s g h).fitting

-- the place of an address's slot lies within the store
pub slot_fits : (g : Geometry) (s : List ℕ) (a : ℕ) → Fitting g s → place_of g a + g.stride ≤ length s
slot_fits g s a f = place_fits g s (slot_of g a) f (slot_lt g a)

-- an insertion that is accepted
pub record Taken (s : List ℕ) (a : ℕ) (rec : List ℕ) (g : Geometry) : Type 0 where
  pub sound : opened s ≡ Some g
  pub whole : length rec ≡ 1040
  pub inner : holds g a ≡ true
  pub formed : well_formed rec a ≡ true

module _ (s : List ℕ) (a : ℕ) (rec : List ℕ) (g : Geometry) where
  pub insert_taken : insert_judged (opened s) a rec ≡ Ok g → Taken s a rec g
  insert_taken h = go (opened s) refl h
    where
      tests : (k : Geometry) → opened s ≡ Some k → (x y z : Bool) → eqb (length rec) 1040 ≡ x → holds k a ≡ y → well_formed rec a ≡ z → cond x (cond y (cond z (Ok k) (Err IllFormed)) (Err OutsideMemory)) (Err WrongBuffer) ≡ Ok g → Taken s a rec g
      tests k e true true true ex ey ez q =
          let w : k ≡ g = cc in
          subst (λ (z : Geometry). opened s ≡ Some z → holds z a ≡ true → Taken s a rec g) (sym w)
          (λ p r. record { sound = p; whole = eqb-true _ _ ex; inner = r; formed = ez }) e ey
      tests k e true true false ex ey ez q = absurd (rejected q)
      tests k e true false z ex ey ez q = absurd (rejected q)
      tests k e false y z ex ey ez q = absurd (rejected q)

      go : (o : Option Geometry) → opened s ≡ o → insert_judged o a rec ≡ Ok g → Taken s a rec g
      go (Some k) e q = tests k e (eqb (length rec) 1040) (holds k a) (well_formed rec a) refl refl refl q
      go None e q = absurd (rejected q)

-- a hit lies within the store
module _ (s : List ℕ) (a : ℕ) (hit : Hit) where
  pub hit-fits : lookup_call s a ≡ Ok hit → hit.at + hit.len ≤ length s
  hit-fits h = go (opened s) refl h
    where
      tests : (g : Geometry) → opened s ≡ Some g → (b : Bool) → cond {A = Answer Hit} b (Ok (record { at = place_of g a; len = g.stride })) (Err NothingFound) ≡ Ok hit → hit.at + hit.len ≤ length s
      tests g e true q = let found : ◌≡◌ {A = Hit} (record { at = place_of g a; len = g.stride }) hit = cc in subst (λ (k : Hit). k.at + k.len ≤ length s) found (slot_fits g s a (opened-fits s g e))
      tests g e false q = absurd (let z : ◌≡◌ {A = ℕ} 0 1 = cc in omega arith)

      go : (o : Option Geometry) → opened s ≡ o → lookup_by o s a ≡ Ok hit → hit.at + hit.len ≤ length s
      go (Some g) e q = tests g e (holds g a && eqb (doubleword_at s (place_of g a)) a) q
      go None e q = absurd (let z : ◌≡◌ {A = ℕ} 0 1 = cc in omega arith)

-- a header that was written is what a new store keeps
pub new_front : (g : Geometry) (s : List ℕ) → take 32 (patch s 0 (header g 1)) ≡ header g 1
unfolding patch
new_front g s = take_at (header g 1) _ 32 (simp (length-append, length-le))
