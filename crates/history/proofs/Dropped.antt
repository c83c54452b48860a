-- The places with an address in a page are as many as the page's addresses that a lookup hits; and a history's touches drop no more of them than it had accepted insertions.
-- Assumes nothing.
use mathlib.Core.Path.{◌≡◌, refl, sym, ap, subst, ◌∙◌}
use mathlib.Core.Bool.{Bool, true, false, cond, ◌&&◌, true≢false}
use mathlib.Core.List.{List, [], ◌∷◌}
use mathlib.Core.Option.{Option, none, some}
use Prim.Native.Nat.{ℕ, ◌+◌, ◌-◌, ◌≤◌, ◌<◌}
use native.Mathlib.Omega.{arith}
use native.Mathlib.Nat.{add-zero, le_antisymm}
use borrow.Author.Tests.{eqb-true, eq-eqb, ne_eqb}
use lib.Dec.{eqb}
use Rattle.bits.specs.Count.{count}
use Rattle.bits.proofs.Count.{count_none, count_apart, count_but_one, count_onto, Some}
use Rattle.history.specs.History.{Event, inserted, touched, flushed, insertions, total, anything, shown, marked, hits_from}
use Rattle.history.proofs.Places.{Place, empty, full, swept, places, in_place, InPlace, full_shown, shown_full}

abbrev is_full : Place → Bool
is_full empty = false
is_full (full a r) = true

address_of : Place → ℕ
address_of empty = 0
address_of (full a r) = a

module _ (slot page : ℕ → ℕ) where
  -- a place holds an address of page p
  abbrev pub place_in_page : ℕ → Place → Bool
  place_in_page p empty = false
  place_in_page p (full a r) = eqb (page a) p

  unmarked_out : (h : List Event) (p i : ℕ) → marked slot page h p ≡ false → place_in_page p (places slot page h i) ≡ false
  unmarked_out h p i m = go (places slot page h i) (in_place slot page h i)
    where
      go : (k : Place) → InPlace slot page h i k → place_in_page p k ≡ false
      go empty s = refl
      go (full a r) s = ne_eqb (page a) p (λ e. true≢false (sym s.1 ∙ ap (marked slot page h) e ∙ m))

  -- a touch empties the places of its page, whether the page is marked or has none
  touch_empties : (h : List Event) (p i : ℕ) → cond (is_full (places slot page (touched p ∷ h) i)) 1 0 + cond (place_in_page p (places slot page h i)) 1 0 ≡ cond (is_full (places slot page h i)) 1 0
  unfolding places
  touch_empties h p i = go (marked slot page h p) refl
    where
      scanned : (t : Bool) (a : ℕ) (r : List ℕ) → cond (is_full (cond t empty (full a r))) 1 0 + cond t 1 0 ≡ 1
      scanned true a r = refl
      scanned false a r = refl

      one : (k : Place) → cond (is_full (swept slot page p k)) 1 0 + cond (place_in_page p k) 1 0 ≡ cond (is_full k) 1 0
      one empty = refl
      one (full a r) = scanned (eqb (page a) p) a r

      go : (t : Bool) → marked slot page h p ≡ t → cond (is_full (cond (marked slot page h p) (swept slot page p (places slot page h i)) (places slot page h i))) 1 0 + cond (place_in_page p (places slot page h i)) 1 0 ≡ cond (is_full (places slot page h i)) 1 0
      go true e = rw e (one (places slot page h i))
      go false e = rw (e, unmarked_out h p i e) (add-zero (cond (is_full (places slot page h i)) 1 0))

  -- n slots, and m addresses to a page, from the first of each on
  module _ (n : ℕ) (slots : (a : ℕ) → slot a < n) (first : ℕ → ℕ) (m : ℕ) (in_page : (p k : ℕ) → k < m → page (first p + k) ≡ p) (its_page : (a : ℕ) → (first (page a) ≤ a) × (a < first (page a) + m)) where
    -- each place of the page is the slot of an address that a lookup hits, and each such address is that of a place
    pub places_hits : (h : List Event) (p : ℕ) → count n (λ i. place_in_page p (places slot page h i)) ≡ hits_from slot page (first p) m h
    unfolding address_of
    places_hits h p =
        le_antisymm
        (count_onto n m (λ i. place_in_page p (places slot page h i)) (λ k. anything (shown slot page h (first p + k))) (λ k. slot (first p + k)) (λ i l e. hit i (places slot page h i) refl e))
        (count_onto m n (λ k. anything (shown slot page h (first p + k))) (λ i. place_in_page p (places slot page h i)) (λ i. address_of (places slot page h i) - first p) (λ k l e. place k l (shown slot page h (first p + k)) refl e))
      where
        hit : (i : ℕ) (k : Place) → places slot page h i ≡ k → place_in_page p k ≡ true → Some m (λ k. eqb (slot (first p + k)) i && anything (shown slot page h (first p + k)))
        hit i empty e t = absurd (true≢false (sym t))
        hit i (full a r) e t =
            let there : (first p ≤ a) × (a < first p + m) = subst (λ (q : ℕ). (first q ≤ a) × (a < first q + m)) (eqb-true (page a) p t) (its_page a) in
            let back : first p + (a - first p) ≡ a = omega (arith, there) in
            let w = full_shown slot page h i a r e in
            record { at = a - first p; below = omega (arith, there); passes = rw (back, eq-eqb (slot a) i w.0, w.1) }

        place : (k : ℕ) → k < m → (o : Option (List ℕ)) → shown slot page h (first p + k) ≡ o → anything o ≡ true → Some n (λ i. eqb (address_of (places slot page h i) - first p) k && place_in_page p (places slot page h i))
        place k l none e t = absurd (true≢false (sym t))
        place k l (some r) e t =
            let back : first p + k - first p ≡ k = omega arith in
            record { at = slot (first p + k); below = slots (first p + k); passes = rw (shown_full slot page h (first p + k) r e, eq-eqb (first p + k - first p) k back, eq-eqb (page (first p + k)) p (in_page p k l)) }

    -- so an unmarked page has none
    pub unmarked_none : (h : List Event) (p : ℕ) → marked slot page h p ≡ false → hits_from slot page (first p) m h ≡ 0
    unmarked_none h p e = sym (places_hits h p) ∙ count_none n (λ i. place_in_page p (places slot page h i)) (λ i l. unmarked_out h p i e)

    abbrev full_places : List Event → ℕ
    full_places h = count n (λ i. is_full (places slot page h i))

    abbrev drops : List Event → ℕ → ℕ
    drops h p = hits_from slot page (first p) m h

    -- what is dropped and what is still there came by insertions
    accounted : (h : List Event) → total drops h + full_places h ≤ insertions h
    unfolding total insertions places
    accounted [] = omega (arith, count_none n (λ i. false) (λ i l. refl))
    accounted (inserted a r ∷ h) =
        let more = count_but_one n (slot a) (λ i. is_full (places slot page (inserted a r ∷ h) i)) (λ i. is_full (places slot page h i)) (slots a) (λ i d. rw (ne_eqb (slot a) i (λ e. d (sym e)))) in
        omega (arith, accounted h, rw (eq-eqb (slot a) (slot a) refl) at more)
    accounted (touched p ∷ h) =
        omega (arith, accounted h, places_hits h p, count_apart n (λ i. is_full (places slot page (touched p ∷ h) i)) (λ i. place_in_page p (places slot page h i)) (λ i. is_full (places slot page h i)) (λ i l. touch_empties h p i))
    accounted (flushed ∷ h) = omega (arith, accounted h, count_none n (λ i. false) (λ i l. refl))

    pub dropped_bound : (h : List Event) → total drops h ≤ insertions h
    dropped_bound h = omega (arith, accounted h)
