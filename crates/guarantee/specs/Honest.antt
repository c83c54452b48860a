-- The premise of "Never stale" (docs/FORMATS.md): each accepted insertion held the block formed from the bytes then present; and what a store shows is what forms now.
-- Assumes nothing.
use Rattle.std.specs.Prelude.{ℕ, ◌≡◌, List, [], ◌∷◌, length, Ok}
use Rattle.std.proofs.Math.Option.{some}
use Rattle.block.specs.Memory.{page_bytes}
use Rattle.form.specs.Call.{form_call}
use Rattle.store.specs.Layout.{slot_of}
use Rattle.store.specs.declared.Geometry.{Geometry}
use Rattle.history.specs.History.{Event, Every, OfInserted, shown}
use Rattle.guarantee.specs.Calls.{Call, make, uses, Lent, run}
use Rattle.guarantee.specs.Past.{Past, unmade, since, page_of, events, past_of}
use Rattle.answer.specs.Answer.{Answer}

-- forming, for a store's geometry: from a memory and an address an answer and a record
abbrev pub Former : Type 0
Former = Geometry → List ℕ → ℕ → Answer (Unit {0}) × List ℕ

-- it reads only the page of the address
abbrev pub Local : Former → Type 0
Local form = (g : Geometry) (m other : List ℕ) (a : ℕ) → length m ≡ length other → page_bytes m g.base a ≡ page_bytes other g.base a → form g m a ≡ form g other a

-- the Form call in the store's reading, into any lent record
abbrev pub forming : List ℕ → Former
forming lent g m a = form_call g.reading m g.base a lent

module _ (form : Former) where
  -- what a past shows is what forms from this memory
  abbrev pub Fresh : Past → List ℕ → Type 0
  Fresh unmade m = Unit {0}
  Fresh (since g h) m = (a : ℕ) (r : List ℕ) → shown (slot_of g) page_of h a ≡ some r → form g m a ≡ (Ok tt, r)

  -- each accepted insertion of a list of calls held what formed from the memory that the calls before it left
  unfoldable pub Honest : Past → List Call → Lent → Type 0
  Honest p [] l = Unit {0}
  Honest p (make reading e base pages ∷ calls) l = Honest p calls l
  Honest p (uses c ∷ calls) l =
      ((g : Geometry) (h : List Event) → past_of p calls l ≡ since g h → Every (OfInserted (λ a r. form g (run calls l).memory a ≡ (Ok tt, r))) (events (length l.memory) g c))
      × Honest p calls l
