-- What an accepted insertion and an eviction leave of a store's geometry, generation, page bits and places.
-- Assumes nothing.
use mathlib.Core.Path.{◌≡◌, refl, ap, ◌∙◌}
use mathlib.Core.Bool.{Bool, true, false, cond}
use mathlib.Core.List.{List}
use Prim.Native.Nat.{ℕ, ◌+◌, ◌/◌, ◌%◌, ◌^◌, ◌<◌}
use native.Mathlib.Omega.{arith}
use lib.Dec.{eqb}
use lib.ListN.{length}
use borrow.Author.Tests.{ne_eqb}
use Rattle.bits.specs.Bytes.{part}
use Rattle.bits.proofs.Count.{count_same}
use Rattle.bits.proofs.Tests.{and_both}
use Rattle.store.specs.Layout.{front, opened, Fitting, holds, memory_page, slot_of, generation_of, bumped}
use Rattle.store.specs.Places.{place_in, page_bit, with_bit, place_for, in_page, emptied}
use Rattle.store.specs.declared.Geometry.{Geometry}
use Rattle.store.proofs.Known.{holds_are, page-lt, slot_lt, bit-fits}
use Rattle.store.proofs.Places.{emptied_apart, length-emptied}
use Rattle.store.proofs.View.{length_with, opened_with, generation_with, bits_with, place_with, length-bumped, opened-bumped, generation-bumped, bits-bumped, place_bumped, length_put, opened_put, generation_put, bits_put, place_put, fitting_each, opened_each, generation_each, bits_each, front_each, place_each, front_with}
use Rattle.cache.specs.Calls.{inserted_in, watched, evicted, noticed_in, dropped_in, report_in}
use Rattle.cache.specs.declared.Report.{Report}

-- whether a notice finds its page's bit set, and what it reports
abbrev found : Geometry → List ℕ → ℕ → Bool × Report
found g s b = (watched g s b, report_in g s b)

-- emptying keeps a place's length
keeps : (g : Geometry) (s : List ℕ) → Fitting g s → (w : ℕ) (p : List ℕ) → length p ≡ g.stride → length (emptied w p) ≡ g.stride
keeps g s f w p l = length-emptied w p (omega (arith, f.bounds.room)) ∙ l

module _ (g : Geometry) (s : List ℕ) (f : Fitting g s) (a : ℕ) (h : holds g a ≡ true) where
  in_memory : memory_page g a < g.pages
  in_memory = page-lt g a h

  -- the page's bit is off, and the places on the page are empty
  cleared : List ℕ
  cleared = with_bit s (memory_page g a) false

  cleared_fits : Fitting g cleared
  unfolding cleared
  cleared_fits = record { bounds = f.bounds; exact = length_with g s f (memory_page g a) false in_memory ∙ f.exact }

  here : ℕ
  here = a / 4096

  pub fitting_evicted : Fitting g (evicted g s a)
  unfolding evicted cleared here
  fitting_evicted = fitting_each g cleared cleared_fits (emptied here) (keeps g s f here)

  pub opened-evicted : opened (evicted g s a) ≡ opened s
  unfolding evicted cleared here
  opened-evicted = opened_each g cleared cleared_fits (emptied here) (keeps g s f here) ∙ opened_with g s f (memory_page g a) false in_memory

  pub generation-evicted : generation_of (evicted g s a) ≡ generation_of s
  unfolding evicted cleared here
  generation-evicted = generation_each g cleared cleared_fits (emptied here) (keeps g s f here) ∙ generation_with g s f (memory_page g a) false in_memory

  pub bits-evicted : (q : ℕ) → q < g.pages → page_bit (evicted g s a) q ≡ cond (eqb (memory_page g a) q) false (page_bit s q)
  unfolding evicted cleared here
  bits-evicted q b = bits_each g cleared cleared_fits (emptied here) (keeps g s f here) q b ∙ bits_with g s f (memory_page g a) false in_memory q

  pub place_evicted : (i : ℕ) → i < 2 ^ g.e → place_in g (evicted g s a) i ≡ emptied (a / 4096) (place_in g s i)
  unfolding evicted cleared here
  place_evicted i b = place_each g cleared cleared_fits (emptied here) (keeps g s f here) i b ∙ ap (emptied here) (place_with g s f (memory_page g a) false in_memory i)

  pub front-evicted : part (evicted g s a) 0 (front g.pages) ≡ with_bit (part s 0 (front g.pages)) (memory_page g a) false
  unfolding evicted cleared here
  front-evicted =
      front_each g cleared cleared_fits (emptied here) (keeps g s f here)
      ∙ front_with s (memory_page g a) (front g.pages) false (bit-fits g s (memory_page g a) f in_memory)

  -- its bit is no part of a place
  pub dropped_cleared : dropped_in g (with_bit s (memory_page g a) false) a ≡ dropped_in g s a
  dropped_cleared = count_same (2 ^ g.e) _ _ (λ i b. ap (in_page (a / 4096)) (place_with g s f (memory_page g a) false in_memory i))

  -- a notice in another page finds its bit and its places as they were
  module _ (b : ℕ) (apart : a / 4096 ≡ b / 4096 → ⊥) (inside : holds g b ≡ true) where
    other_page : memory_page g a ≡ memory_page g b → ⊥
    other_page e = apart (omega (arith, holds_are g a h, holds_are g b inside, f.bounds.aligned))

    bit_apart : page_bit (evicted g s a) (memory_page g b) ≡ page_bit s (memory_page g b)
    bit_apart = bits-evicted (memory_page g b) (page-lt g b inside) ∙ rw (ne_eqb (memory_page g a) (memory_page g b) other_page)

    dropped_apart : dropped_in g (evicted g s a) b ≡ dropped_in g s b
    dropped_apart =
        count_same (2 ^ g.e) _ _
        (λ i c. ap (in_page (b / 4096)) (place_evicted i c) ∙ emptied_apart (a / 4096) (b / 4096) (place_in g s i) apart (omega (arith, holds_are g b inside, f.bounds.below)))

    evicted_apart : found g (evicted g s a) b ≡ found g s b
    evicted_apart = rw (inside, bit_apart, dropped_apart)

  -- the page's bit is on, the generation one up, and the slot's place holds the record
  module _ (rec : List ℕ) (l : length (place_for g rec) ≡ g.stride) where
    marked : List ℕ
    marked = with_bit s (memory_page g a) true

    marked-fits : Fitting g marked
    unfolding marked
    marked-fits = record { bounds = f.bounds; exact = length_with g s f (memory_page g a) true in_memory ∙ f.exact }

    moved_fits : Fitting g (bumped marked)
    moved_fits = record { bounds = f.bounds; exact = length-bumped g marked marked-fits ∙ marked-fits.exact }

    pub fitting_inserted : Fitting g (inserted_in g s a rec)
    unfolding inserted_in marked
    fitting_inserted = record { bounds = f.bounds; exact = length_put g (bumped marked) moved_fits (slot_of g a) (place_for g rec) (slot_lt g a) l ∙ moved_fits.exact }

    pub opened-inserted : opened (inserted_in g s a rec) ≡ opened s
    unfolding inserted_in marked
    opened-inserted = opened_put g (bumped marked) moved_fits (slot_of g a) (place_for g rec) (slot_lt g a) l ∙ opened-bumped g marked marked-fits ∙ opened_with g s f (memory_page g a) true in_memory

    pub generation-inserted : generation_of (inserted_in g s a rec) ≡ (generation_of s + 1) % 2 ^ 64
    unfolding inserted_in marked
    generation-inserted =
        generation_put g (bumped marked) moved_fits (slot_of g a) (place_for g rec) (slot_lt g a) l
        ∙ generation-bumped g marked marked-fits
        ∙ ap (λ (n : ℕ). (n + 1) % 2 ^ 64) (generation_with g s f (memory_page g a) true in_memory)

    pub bits-inserted : (q : ℕ) → q < g.pages → page_bit (inserted_in g s a rec) q ≡ cond (eqb (memory_page g a) q) true (page_bit s q)
    unfolding inserted_in marked
    bits-inserted q b =
        bits_put g (bumped marked) moved_fits (slot_of g a) (place_for g rec) (slot_lt g a) l q b ∙ bits-bumped g marked marked-fits q ∙ bits_with g s f (memory_page g a) true in_memory q

    pub place_inserted : (i : ℕ) → place_in g (inserted_in g s a rec) i ≡ cond (eqb (slot_of g a) i) (place_for g rec) (place_in g s i)
    unfolding inserted_in marked
    place_inserted i =
        place_put g (bumped marked) moved_fits (slot_of g a) (place_for g rec) (slot_lt g a) l i
        ∙ ap (cond (eqb (slot_of g a) i) (place_for g rec)) (place_bumped g marked marked-fits i ∙ place_with g s f (memory_page g a) true in_memory i)

-- what holds of a store and of its evictions holds after a notice
module _ (g : Geometry) (s : List ℕ) (a : ℕ) (P : List ℕ → Type 0) (before : P s) (after : holds g a ≡ true → P (evicted g s a)) where
  pub noticed_keeps : P (noticed_in g s a)
  noticed_keeps = go (watched g s a) refl
    where
      go : (t : Bool) → watched g s a ≡ t → P (noticed_in g s a)
      go true e = rw e (after (and_both (holds g a) _ e).0)
      go false e = rw e before

module _ (g : Geometry) (s : List ℕ) (f : Fitting g s) (a : ℕ) where
  pub fitting_noticed : Fitting g (noticed_in g s a)
  fitting_noticed = noticed_keeps g s a (Fitting g) f (fitting_evicted g s f a)

  pub opened_noticed : opened (noticed_in g s a) ≡ opened s
  opened_noticed = noticed_keeps g s a (λ z. opened z ≡ opened s) refl (opened-evicted g s f a)

  -- a notice in another page finds what it would have found before: a write's sum may be taken before it or on the way
  module _ (b : ℕ) (apart : a / 4096 ≡ b / 4096 → ⊥) where
    found_apart : found g (noticed_in g s a) b ≡ found g s b
    found_apart = noticed_keeps g s a (λ z. found g z b ≡ found g s b) refl (λ h. go h (holds g b) refl)
      where
        go : holds g a ≡ true → (t : Bool) → holds g b ≡ t → found g (evicted g s a) b ≡ found g s b
        go h true i = evicted_apart g s f a h b apart i
        go h false i = rw i

    pub watched_apart : watched g (noticed_in g s a) b ≡ watched g s b
    watched_apart = ap (λ (r : Bool × Report). r.0) found_apart

    pub report_apart : report_in g (noticed_in g s a) b ≡ report_in g s b
    report_apart = ap (λ (r : Bool × Report). r.1) found_apart
