-- What a history of calls says of a cache, read back from the newest event.
-- Assumes nothing.
use Rattle.std.specs.Prelude.{◌≡◌, Bool, true, false, cond, ◌&&◌, ◌||◌, not, List, [], ◌∷◌, ◌++◌, ℕ, suc, ◌+◌, eqb}
use Rattle.std.proofs.Math.Option.{Option, none, some}
use Rattle.bits.specs.Count.{count}

-- an accepted insertion of a record at an address; a notice or an accepted guest write in a page; a flush
pub data Event : Type 0 where
  inserted : ℕ → List ℕ → Event
  touched : ℕ → Event
  flushed : Event

-- accepted insertions
unfoldable pub insertions : List Event → ℕ
insertions [] = 0
insertions (inserted a r ∷ h) = suc (insertions h)
insertions (touched p ∷ h) = insertions h
insertions (flushed ∷ h) = insertions h

-- what a history's touches count, each after the events before it, summed
unfoldable pub total : (List Event → ℕ → ℕ) → List Event → ℕ
total f [] = 0
total f (inserted a r ∷ h) = total f h
total f (touched p ∷ h) = f h p + total f h
total f (flushed ∷ h) = total f h

-- every event of a list
pub data Every (P : Event → Type 0) : List Event → Type 0 where
  none_left : Every P []
  and_then : {e : Event} {h : List Event} → P e → Every P h → Every P (e ∷ h)

-- of an insertion, something about its address and its record
abbrev pub OfInserted : (ℕ → List ℕ → Type 0) → Event → Type 0
OfInserted P (inserted a r) = P a r
OfInserted P (touched p) = Unit {0}
OfInserted P flushed = Unit {0}

-- whether there is a record
abbrev pub anything : Option (List ℕ) → Bool
anything (some r) = true
anything none = false

module _ (slot page : ℕ → ℕ) where
  -- the record that a lookup at a shows: the newest event that concerns a decides
  unfoldable pub shown : List Event → ℕ → Option (List ℕ)
  shown [] a = none
  shown (inserted b r ∷ h) a = cond (eqb b a) (some r) (cond (eqb (slot b) (slot a)) none (shown h a))
  shown (touched p ∷ h) a = cond (eqb p (page a)) none (shown h a)
  shown (flushed ∷ h) a = none

  -- the page had an insertion after its last notice or write and the last flush
  unfoldable pub marked : List Event → ℕ → Bool
  marked [] p = false
  marked (inserted a r ∷ h) p = eqb (page a) p || marked h p
  marked (touched q ∷ h) p = not (eqb q p) && marked h p
  marked (flushed ∷ h) p = false

  -- the slots, of n, that a touch of a page examines
  abbrev pub examined : ℕ → List Event → ℕ → ℕ
  examined n h p = cond (marked h p) n 0

  -- how many of the m addresses from a on a lookup would hit
  abbrev pub hits_from : ℕ → ℕ → List Event → ℕ
  hits_from a m h = count m (λ k. anything (shown h (a + k)))

  -- shown and marked in one sentence each, as in docs/FORMATS.md, What any history guarantees
  abbrev pub Harmless : ℕ → Event → Type 0
  Harmless a (inserted b r) = slot b ≡ slot a → ⊥
  Harmless a (touched p) = p ≡ page a → ⊥
  Harmless a flushed = ⊥

  -- r was inserted at a, and since came no insertion in its slot, no notice or write in its page, and no flush
  pub record Lives (h : List Event) (a : ℕ) (r : List ℕ) : Type 0 where
    pub since : List Event
    pub before : List Event
    pub is : h ≡ since ++ inserted a r ∷ before
    pub safe : Every (Harmless a) since

  abbrev pub Quiet : ℕ → Event → Type 0
  Quiet p (inserted a r) = Unit {0}
  Quiet p (touched q) = q ≡ p → ⊥
  Quiet p flushed = ⊥

  -- something was inserted in page p, and since came no notice or write in it, and no flush
  pub record Marked (h : List Event) (p : ℕ) : Type 0 where
    pub since : List Event
    pub before : List Event
    pub a : ℕ
    pub r : List ℕ
    pub is : h ≡ since ++ inserted a r ∷ before
    pub in_page : page a ≡ p
    pub safe : Every (Quiet p) since
