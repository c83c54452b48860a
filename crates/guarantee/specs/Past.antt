-- What a list of calls tells of a store's past, from the calls alone and the lengths of the two buffers: whether a call is accepted needs no byte of them.
-- Assumes nothing.
use Rattle.std.specs.Prelude.{ℕ, ◌+◌, ◌-◌, ◌/◌, cond, List, [], ◌∷◌, ◌++◌, eqb, length, Some, Ok, Err}
use Rattle.store.specs.declared.Geometry.{Geometry}
use Rattle.cache.specs.Calls.{make_judged, insert_judged}
use Rattle.write.specs.Write.{write_judged}
use Rattle.history.specs.History.{Event, inserted, touched, flushed}
use Rattle.guarantee.specs.Calls.{Use, lookup, insert, notice, notices, flush, generation, write, Call, make, uses, Lent}
use Rattle.answer.specs.Answer.{Answer}

-- nothing before a store is made; from then on its geometry, and the events since, the newest first
pub data Past : Type 0 where
  unmade : Past
  since : Geometry → List Event → Past

-- pages are counted from address 0
abbrev pub page_of : ℕ → ℕ
page_of a = a / 4096

-- x of what is accepted, else y
abbrev pub if_accepted : {A : Type 0} → Answer Geometry → (Geometry → A) → A → A
if_accepted (Ok g) x y = x g
if_accepted (Err why) x y = y

-- a write from a to b touches one page or two
abbrev pub crossed : ℕ → ℕ → List Event
crossed a b = cond (eqb (page_of a) (page_of b)) (touched (page_of a) ∷ []) (touched (page_of b) ∷ touched (page_of a) ∷ [])

-- a list of notices touches the page of each address, one after the other
unfoldable pub touches : List ℕ → List Event
touches [] = []
touches (a ∷ rest) = touches rest ++ touched (page_of a) ∷ []

-- the events of a call, the newest first, on a store of this geometry and a memory of `m_len` bytes; a refusal is none
unfoldable pub events : ℕ → Geometry → Use → List Event
events m_len g (lookup a) = []
events m_len g (insert a rec) = if_accepted (insert_judged (Some g) a rec) (λ k. inserted a rec ∷ []) []
events m_len g (notice a) = touched (page_of a) ∷ []
events m_len g (notices list) = touches list
events m_len g flush = flushed ∷ []
events m_len g generation = []
events m_len g (write a n v) = if_accepted (write_judged (Some g) m_len a n) (λ k. crossed a (a + n - 1)) []

-- what a call adds to a past
abbrev pub grown : ℕ → Use → Past → Past
grown m_len c unmade = unmade
grown m_len c (since g h) = since g (events m_len g c ++ h)

-- the past of a store of `s_len` bytes after calls, from the past that it had before them; an accepted Make begins anew
unfoldable pub past : ℕ → ℕ → Past → List Call → Past
past s_len m_len p [] = p
past s_len m_len p (make reading e base pages ∷ calls) = if_accepted (make_judged reading e base pages s_len) (λ g. since g []) (past s_len m_len p calls)
past s_len m_len p (uses c ∷ calls) = grown m_len c (past s_len m_len p calls)

-- by the lengths of the buffers, which no call changes
abbrev pub past_of : Past → List Call → Lent → Past
past_of p calls l = past (length l.store) (length l.memory) p calls
