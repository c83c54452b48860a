-- When a store stands for a past: its header, its generation, its places and its page bits are what the past says.
-- The theorems start from any such store; for one with no past it may have any bytes.
-- Assumes nothing.
use Rattle.std.specs.Prelude.{ℕ, ◌+◌, ◌%◌, ◌^◌, ◌<◌, ◌≡◌, List, Some, Ok}
use Rattle.std.proofs.Math.Option.{none, some}
use Rattle.store.specs.Layout.{opened, slot_of, generation_of}
use Rattle.store.specs.Places.{page_bit, place_in, empty_place, place_for}
use Rattle.store.specs.declared.Geometry.{Geometry}
use Rattle.cache.specs.Calls.{insert_judged}
use Rattle.history.specs.History.{Event, insertions, Every, OfInserted, shown, marked}
use Rattle.guarantee.specs.Past.{Past, unmade, since, page_of}

-- an event that a store of this geometry can have: no refused insertion
abbrev pub Possible : Geometry → Event → Type 0
Possible g = OfInserted (λ a r. insert_judged (Some g) a r ≡ Ok g)

pub record Stands (g : Geometry) (h : List Event) (s : List ℕ) : Type 0 where
  pub sound : opened s ≡ Some g
  pub age : generation_of s ≡ (insertions h + 1) % 2 ^ 64
  -- a place holds the record that the past shows at an address of its slot, and is empty where it shows none
  pub full : (a : ℕ) (r : List ℕ) → shown (slot_of g) page_of h a ≡ some r → place_in g s (slot_of g a) ≡ place_for g r
  pub vacant : (i : ℕ) → i < 2 ^ g.e → ((a : ℕ) → slot_of g a ≡ i → shown (slot_of g) page_of h a ≡ none) → place_in g s i ≡ empty_place g.stride
  pub bits : (q : ℕ) → q < g.pages → page_bit s q ≡ marked (slot_of g) page_of h (page_of g.base + q)
  pub accepted : Every (Possible g) h

abbrev pub Follows : Past → List ℕ → Type 0
Follows unmade s = Unit {0}
Follows (since g h) s = Stands g h s
