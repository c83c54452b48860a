-- The worthless programs of docs/FORMATS.md, by what they answer to a history. No promise rests on these definitions: they are there to be shut out.
-- Assumes nothing.
use Rattle.std.specs.Prelude.{ℕ, ◌^◌, ◌≡◌, cond, List, [], ◌∷◌, eqb}
use Rattle.std.proofs.Math.Option.{Option, none, some}
use Rattle.store.specs.Layout.{slot_of}
use Rattle.store.specs.declared.Geometry.{Geometry}
use Rattle.history.specs.History.{Event, inserted, touched, flushed, insertions, shown}
use Rattle.guarantee.specs.Calls.{Call}
use Rattle.guarantee.specs.Past.{unmade, since, page_of, past}
use Rattle.guarantee.specs.Answers.{report}

-- what a cache shows at an address after a history, and a number that it reports of a touch of a page
abbrev pub Shows : Type 0
Shows = Geometry → List Event → ℕ → Option (List ℕ)

abbrev pub Counts : Type 0
Counts = Geometry → List Event → ℕ → ℕ

-- as the guarantee has it, after all calls on buffers of any lengths
abbrev pub ShowsRight : Shows → Type 0
ShowsRight f = (s_len m_len : ℕ) (calls : List Call) (g : Geometry) (h : List Event) → past s_len m_len unmade calls ≡ since g h → (a : ℕ) → f g h a ≡ shown (slot_of g) page_of h a

abbrev pub CountsRight : Counts → Counts → Type 0
CountsRight due f = (s_len m_len : ℕ) (calls : List Call) (g : Geometry) (h : List Event) → past s_len m_len unmade calls ≡ since g h → (p : ℕ) → f g h p ≡ due g h p

-- the numbers that are due: the slots examined, and the places dropped
abbrev pub slots_due : Counts
slots_due g h p = (report g h p).examined

abbrev pub drops_due : Counts
drops_due g h p = (report g h p).dropped

-- takes insertions and keeps nothing
abbrev pub keeps_nothing : Shows
keeps_nothing g h a = none

-- keeps only its first insertion
unfoldable pub first_kept : List Event → ℕ → Option (List ℕ)
first_kept [] a = none
first_kept (inserted b r ∷ h) a = cond (eqb (insertions h) 0) (cond (eqb b a) (some r) none) (first_kept h a)
first_kept (touched p ∷ h) a = cond (eqb p (page_of a)) none (first_kept h a)
first_kept (flushed ∷ h) a = none

abbrev pub keeps_first : Shows
keeps_first g h a = first_kept h a

-- empties everything on each notice and write
unfoldable pub untouched : Geometry → List Event → ℕ → Option (List ℕ)
untouched g [] a = none
untouched g (inserted b r ∷ h) a = cond (eqb b a) (some r) (cond (eqb (slot_of g b) (slot_of g a)) none (untouched g h a))
untouched g (touched p ∷ h) a = none
untouched g (flushed ∷ h) a = none

abbrev pub empties_all : Shows
empties_all g h a = untouched g h a

-- make their counts up: always every slot, and always 0; for the places dropped also the slots examined, slots_due
abbrev pub always_all : Counts
always_all g h p = 2 ^ g.e

abbrev pub always_none : Counts
always_none g h p = 0
