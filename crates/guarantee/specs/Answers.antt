-- What the calls answer, by a store's past alone.
-- Assumes nothing.
use Rattle.std.specs.Prelude.{ℕ, ◌*◌, ◌^◌, List, [], ◌∷◌, ◌++◌, length, Ok, Err}
use Rattle.std.proofs.Math.Option.{Option, none, some}
use Rattle.answer.specs.declared.Refusal.TheVariants.{NothingFound}
use Rattle.store.specs.Layout.{slot_of}
use Rattle.store.specs.Places.{place_for}
use Rattle.store.specs.declared.Geometry.{Geometry}
use Rattle.cache.specs.Answers.{nothing_done, hit_at}
use Rattle.cache.specs.Calls.{make_judged, place_of, summed}
use Rattle.cache.specs.declared.Report.{Report}
use Rattle.history.specs.History.{Event, inserted, touched, flushed, examined, hits_from, total}
use Rattle.guarantee.specs.Calls.{Call, make, uses, Lent, done, run}
use Rattle.guarantee.specs.Past.{Past, unmade, since, page_of, if_accepted}
use Rattle.answer.specs.Answer.{Answer}
use Rattle.cache.specs.declared.Hit.{Hit}

-- a lookup, by the record that the past shows: its slot's place, or nothing found
abbrev pub lookup_answered : Geometry → ℕ → Option (List ℕ) → Answer Hit
lookup_answered g a (some r) = hit_at (place_of g a) g.stride
lookup_answered g a none = Err NothingFound

-- and the part of the store that it returns
abbrev pub part_for : Geometry → Option (List ℕ) → List ℕ
part_for g (some r) = place_for g r
part_for g none = []

-- how many addresses of page p a lookup would hit after the events h
abbrev pub live : Geometry → List Event → ℕ → ℕ
live g h p = hits_from (slot_of g) page_of (4096 * p) 4096 h

-- a notice in page p, after the events h: it drops what a lookup would hit just before it
abbrev pub report : Geometry → List Event → ℕ → Report
report g h p = record { examined = examined (slot_of g) page_of (2 ^ g.e) h p; dropped = live g h p }

-- a call, by its events after the events h: the sum over the pages that it touches
unfoldable pub reports : Geometry → List Event → List Event → Report
reports g h [] = nothing_done
reports g h (inserted a rec ∷ new) = reports g h new
reports g h (touched p ∷ new) = summed (reports g h new) (report g (new ++ h) p)
reports g h (flushed ∷ new) = reports g h new

-- Make and insertions, by what their judge says
abbrev pub answered : Answer Geometry → Answer (Unit {0})
answered (Ok g) = Ok tt
answered (Err why) = Err why

-- and a guest write
abbrev pub write_answered : Answer Geometry → Report → Answer Report
write_answered (Ok g) r = Ok r
write_answered (Err why) r = Err why

-- what a past's calls have reported together
abbrev pub reported_by : Past → Report
reported_by unmade = nothing_done
reported_by (since g h) = record { examined = total (examined (slot_of g) page_of (2 ^ g.e)) h; dropped = total (live g) h }

-- what all calls since the last accepted Make reported together, those before the start by the past p that the store had then
unfoldable pub spent : Past → List Call → Lent → Report
spent p [] l = reported_by p
spent p (make reading e base pages ∷ calls) l = if_accepted (make_judged reading e base pages (length l.store)) (λ g. nothing_done) (spent p calls l)
spent p (uses c ∷ calls) l = summed (done c (run calls l)).0 (spent p calls l)
