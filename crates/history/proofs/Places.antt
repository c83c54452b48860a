-- A cache keeps a place for each slot and a bit for each page; what its places hold after a history answers each lookup as the history says.
-- Assumes nothing.
use mathlib.Core.Path.{◌≡◌, refl, sym, ap, subst, ◌∙◌}
use mathlib.Core.Bool.{Bool, true, false, cond, ◌&&◌, not, true≢false}
use mathlib.Core.List.{List, [], ◌∷◌}
use mathlib.Core.Option.{Option, none, some}
use Prim.Native.Nat.{ℕ}
use borrow.Author.Tests.{eqb-true, eqb-false, eq-eqb, ne_eqb}
use lib.Dec.{eqb}
use Rattle.bits.proofs.Tests.{or_right}
use Rattle.history.specs.History.{Event, inserted, touched, flushed, Every, none_left, and_then, shown, marked}
use Rattle.history.proofs.Sentences.{no_some}

pub data Place : Type 0 where
  empty : Place
  full : ℕ → List ℕ → Place

-- what a lookup at a makes of its slot's place
abbrev pub found : Place → ℕ → Option (List ℕ)
found empty a = none
found (full b r) a = cond (eqb b a) (some r) none

module _ (slot page : ℕ → ℕ) where
  -- a place after a scan for page p
  abbrev pub swept : ℕ → Place → Place
  swept p empty = empty
  swept p (full a r) = cond (eqb (page a) p) empty (full a r)

  unfoldable pub places : List Event → ℕ → Place
  places [] i = empty
  places (inserted a r ∷ h) i = cond (eqb (slot a) i) (full a r) (places h i)
  places (touched p ∷ h) i = cond (marked slot page h p) (swept p (places h i)) (places h i)
  places (flushed ∷ h) i = empty

  -- a place that holds an address is that of its slot, and its page is marked
  abbrev pub InPlace : List Event → ℕ → Place → Type 0
  InPlace h i empty = Unit {0}
  InPlace h i (full a r) = (slot a ≡ i) × (marked slot page h (page a) ≡ true)

  pub in_place : (h : List Event) (i : ℕ) → InPlace h i (places h i)
  unfolding places marked
  in_place [] i = tt
  in_place (inserted b q ∷ h) i = go (eqb (slot b) i) refl (places h i) (in_place h i)
    where
      go : (t : Bool) → eqb (slot b) i ≡ t → (k : Place) → InPlace h i k → InPlace (inserted b q ∷ h) i (cond t (full b q) k)
      go true et k s = (eqb-true (slot b) i et, rw (eq-eqb (page b) (page b) refl))
      go false et empty s = tt
      go false et (full a r) s = (s.0, or_right (eqb (page b) (page a)) s.1)
  in_place (touched p ∷ h) i = go (marked slot page h p) refl (places h i) (in_place h i)
    where
      other : (a : ℕ) → (p ≡ page a → ⊥) → marked slot page h (page a) ≡ true → (not (eqb p (page a)) && marked slot page h (page a)) ≡ true
      other a n m = rw (ne_eqb p (page a) n, m)

      scanned : (a : ℕ) (r : List ℕ) (t : Bool) → eqb (page a) p ≡ t → InPlace h i (full a r) → InPlace (touched p ∷ h) i (cond t empty (full a r))
      scanned a r true et s = tt
      scanned a r false et s = (s.0, other a (λ e. eqb-false (page a) p et (sym e)) s.1)

      go : (t : Bool) → marked slot page h p ≡ t → (k : Place) → InPlace h i k → InPlace (touched p ∷ h) i (cond t (swept p k) k)
      go true et empty s = tt
      go true et (full a r) s = scanned a r (eqb (page a) p) refl s
      go false et empty s = tt
      go false et (full a r) s = (s.0, other a (λ e. true≢false (sym s.1 ∙ ap (marked slot page h) (sym e) ∙ et)) s.1)
  in_place (flushed ∷ h) i = tt

  -- what a place holds was inserted
  abbrev pub Was : (Event → Type 0) → Place → Type 0
  Was P empty = Unit {0}
  Was P (full a r) = P (inserted a r)

  pub was : (P : Event → Type 0) (h : List Event) → Every P h → (i : ℕ) → Was P (places h i)
  unfolding places
  was P [] none_left i = tt
  was P (inserted b q ∷ h) (and_then p l) i = go (eqb (slot b) i) (places h i) (was P h l i)
    where
      go : (t : Bool) (k : Place) → Was P k → Was P (cond t (full b q) k)
      go true k w = p
      go false k w = w
  was P (touched p ∷ h) (and_then u l) i = go (marked slot page h p) (places h i) (was P h l i)
    where
      scanned : (a : ℕ) (r : List ℕ) (t : Bool) → P (inserted a r) → Was P (cond t empty (full a r))
      scanned a r true w = tt
      scanned a r false w = w

      go : (t : Bool) (k : Place) → Was P k → Was P (cond t (swept p k) k)
      go true empty w = tt
      go true (full a r) w = scanned a r (eqb (page a) p) w
      go false k w = w
  was P (flushed ∷ h) (and_then u l) i = tt

  -- a place of the slot answers a lookup as the history does
  pub answers : (h : List Event) (a : ℕ) → found (places h (slot a)) a ≡ shown slot page h a
  unfolding places shown
  answers [] a = refl
  answers (inserted b q ∷ h) a = go (answers h a) (eqb (slot b) (slot a)) (eqb b a) refl refl
    where
      go : found (places h (slot a)) a ≡ shown slot page h a → (t u : Bool) → eqb (slot b) (slot a) ≡ t → eqb b a ≡ u → found (places (inserted b q ∷ h) (slot a)) a ≡ shown slot page (inserted b q ∷ h) a
      go ih true true et eu = rw (et, eu)
      go ih true false et eu = rw (et, eu)
      go ih false true et eu = absurd (eqb-false (slot b) (slot a) et (ap slot (eqb-true b a eu)))
      go ih false false et eu = rw (et, eu) ih
  answers (touched p ∷ h) a = go (answers h a) (marked slot page h p) refl (places h (slot a)) refl (in_place h (slot a))
    where
      -- an address in another page is not concerned, and one in the page has no unmarked place
      gone : (b : ℕ) (r : List ℕ) (t u w : Bool) → eqb (page b) p ≡ t → eqb b a ≡ u → eqb p (page a) ≡ w → cond u (some r) none ≡ shown slot page h a → found (cond t empty (full b r)) a ≡ cond w none (shown slot page h a)
      gone b r true true true et eu ew ih = refl
      gone b r true true false et eu ew ih = absurd (eqb-false p (page a) ew (sym (eqb-true (page b) p et) ∙ ap page (eqb-true b a eu)))
      gone b r true false true et eu ew ih = refl
      gone b r true false false et eu ew ih = ih
      gone b r false true true et eu ew ih = absurd (eqb-false (page b) p et (ap page (eqb-true b a eu) ∙ sym (eqb-true p (page a) ew)))
      gone b r false true false et eu ew ih = rw eu ih
      gone b r false false true et eu ew ih = rw eu
      gone b r false false false et eu ew ih = rw eu ih

      stays : (b : ℕ) (r : List ℕ) (u w : Bool) → eqb b a ≡ u → eqb p (page a) ≡ w → marked slot page h p ≡ false → marked slot page h (page b) ≡ true → cond u (some r) none ≡ shown slot page h a → cond u (some r) none ≡ cond w none (shown slot page h a)
      stays b r true true eu ew m s ih = absurd (true≢false (sym s ∙ ap (marked slot page h) (ap page (eqb-true b a eu) ∙ sym (eqb-true p (page a) ew)) ∙ m))
      stays b r true false eu ew m s ih = ih
      stays b r false true eu ew m s ih = refl
      stays b r false false eu ew m s ih = ih

      nothing : (w : Bool) → none ≡ shown slot page h a → none ≡ cond w none (shown slot page h a)
      nothing true ih = refl
      nothing false ih = ih

      go : found (places h (slot a)) a ≡ shown slot page h a → (t : Bool) → marked slot page h p ≡ t → (k : Place) → places h (slot a) ≡ k → InPlace h (slot a) k → found (cond t (swept p k) k) a ≡ cond (eqb p (page a)) none (shown slot page h a)
      go ih true et empty ek s = nothing (eqb p (page a)) (rw ek at ih)
      go ih true et (full b r) ek s = gone b r (eqb (page b) p) (eqb b a) (eqb p (page a)) refl refl refl (rw ek at ih)
      go ih false et empty ek s = nothing (eqb p (page a)) (rw ek at ih)
      go ih false et (full b r) ek s = stays b r (eqb b a) (eqb p (page a)) refl refl et s.1 (rw ek at ih)
  answers (flushed ∷ h) a = refl

  -- so a place is full exactly where the history shows its record, and empty where it shows none in the slot
  pub full_shown : (h : List Event) (i a : ℕ) (r : List ℕ) → places h i ≡ full a r → (slot a ≡ i) × (shown slot page h a ≡ some r)
  full_shown h i a r e =
      let s : slot a ≡ i = (subst (InPlace h i) e (in_place h i)).0 in
      (s, sym (answers h a) ∙ ap (λ (k : Place). found k a) (ap (places h) s ∙ e) ∙ rw (eq-eqb a a refl))

  pub shown_full : (h : List Event) (a : ℕ) (r : List ℕ) → shown slot page h a ≡ some r → places h (slot a) ≡ full a r
  shown_full h a r e = go (places h (slot a)) (answers h a ∙ e)
    where
      named : (b : ℕ) (q : List ℕ) (t : Bool) → eqb b a ≡ t → cond t (some q) none ≡ some r → full b q ≡ full a r
      named b q true et k =
          let same : q ≡ r = cc in
          let address : b ≡ a = eqb-true b a et in
          cc
      named b q false et k = no_some r k

      go : (k : Place) → found k a ≡ some r → k ≡ full a r
      go empty k = no_some r k
      go (full b q) k = named b q (eqb b a) refl k

  pub empty_none : (h : List Event) (i a : ℕ) → places h i ≡ empty → slot a ≡ i → shown slot page h a ≡ none
  empty_none h i a e s = sym (answers h a) ∙ ap (λ (k : Place). found k a) (ap (places h) s ∙ e)
