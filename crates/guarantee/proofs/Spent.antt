-- What the calls since the last accepted Make reported is the sum that their past gives: so at most 2 ^ e slots for each accepted insertion of it, and one place.
-- Assumes nothing.
use mathlib.Core.Path.{◌≡◌, refl, ap, ap₂, subst, ◌∙◌}
use mathlib.Core.List.{List, [], ◌∷◌, ◌++◌}
use Prim.Native.Nat.{ℕ, ◌*◌, ◌^◌, ◌≤◌}
use lib.ListN.{length}
use Rattle.store.specs.Layout.{slot_of}
use Rattle.store.specs.declared.Geometry.{Geometry}
use Rattle.store.proofs.Known.{slot_lt}
use Rattle.cache.specs.Answers.{nothing_done, reported}
use Rattle.cache.specs.Calls.{make_judged, insert_judged, summed}
use Rattle.cache.specs.declared.Report.{Report}
use Rattle.cache.proofs.Reports.{summed-none, summed_assoc, summed_comm}
use Rattle.write.specs.Write.{write_judged}
use Rattle.history.specs.History.{Event, inserted, touched, flushed, insertions, total}
use Rattle.history.proofs.Bound.{bound}
use Rattle.history.proofs.Dropped.{dropped_bound}
use Rattle.guarantee.specs.Calls.{Use, lookup, insert, notice, notices, flush, generation, write, Call, make, uses, Lent, done, run}
use Rattle.guarantee.specs.Past.{Past, unmade, since, page_of, if_accepted, events, grown, past, past_of}
use Rattle.guarantee.specs.Stands.{Stands, Follows}
use Rattle.guarantee.specs.Answers.{report, reports, write_answered, reported_by, spent}
use Rattle.guarantee.proofs.Simulation.{first_of, in_page_lem, its_page, touch_reports, notices-reports}
use Rattle.guarantee.proofs.Run.{kept}
use Rattle.guarantee.proofs.Guarantee.{write-is}
use Rattle.answer.specs.Answer.{Answer}
use Rattle.std.specs.Prelude.{Some, Ok, Err}

-- of two reports on top of a third, either may come first
pub turned : (x y z : Report) → summed (summed x y) z ≡ summed y (summed x z)
turned x y z = ap (λ (r : Report). summed r z) (summed_comm x y) ∙ summed_assoc y x z

-- what a call's events report comes on top of what the past has
added : (g : Geometry) (h new : List Event) → summed (reports g h new) (reported_by (since g h)) ≡ reported_by (since g (new ++ h))
unfolding reports total
added g h [] = summed-none (reported_by (since g h))
added g h (inserted a rec ∷ new) = added g h new
added g h (touched p ∷ new) = turned (reports g h new) (report g (new ++ h) p) (reported_by (since g h)) ∙ ap (summed (report g (new ++ h) p)) (added g h new)
added g h (flushed ∷ new) = added g h new

-- a call reports what its events do
call_reports : (g : Geometry) (h : List Event) (l : Lent) → Stands g h l.store → (c : Use) → (done c l).0 ≡ reports g h (events (length l.memory) g c)
unfolding done events reports
call_reports g h l y (lookup a) = refl
call_reports g h l y (insert a rec) = go (insert_judged (Some g) a rec) refl
  where
    go : (j : Answer Geometry) → insert_judged (Some g) a rec ≡ j → nothing_done ≡ reports g h (events (length l.memory) g (insert a rec))
    go (Ok k) e = rw e
    go (Err why) e = rw e
call_reports g h l y (notice a) = rw y.sound (touch_reports g h l.store y a)
call_reports g h l y (notices list) = rw y.sound (notices-reports g h l.store y list)
call_reports g h l y flush = refl
call_reports g h l y generation = refl
call_reports g h l y (write a n v) = ap reported (write-is g h l.store y l.memory a n v) ∙ go (write_judged (Some g) (length l.memory) a n) refl
  where
    go : (j : Answer Geometry) → write_judged (Some g) (length l.memory) a n ≡ j → reported (write_answered (write_judged (Some g) (length l.memory) a n) (reports g h (events (length l.memory) g (write a n v)))) ≡ reports g h (events (length l.memory) g (write a n v))
    go (Ok k) e = rw e
    go (Err why) e = rw e

abbrev Paid : Past → Report → Type 0
Paid unmade r = Unit {0}
Paid (since g h) r = r ≡ reported_by (since g h)

module _ (p : Past) (l : Lent) (start : Follows p l.store) where
  paid : (calls : List Call) → Paid (past_of p calls l) (spent p calls l)
  unfolding past spent total
  paid [] = go p
    where
      go : (p : Past) → Paid p (spent p [] l)
      go unmade = tt
      go (since g h) = refl
  paid (make reading e base pages ∷ calls) = go (make_judged reading e base pages (length l.store)) (past_of p calls l) (paid calls)
    where
      go : (j : Answer Geometry) (z : Past) → Paid z (spent p calls l) → Paid (if_accepted j (λ g. since g []) z) (if_accepted j (λ g. nothing_done) (spent p calls l))
      go (Ok g) z i = refl
      go (Err why) z i = i
  paid (uses c ∷ calls) = go (past_of p calls l) (kept p l start calls).follows (paid calls)
    where
      go : (z : Past) → Follows z (run calls l).store → Paid z (spent p calls l) → Paid (grown (length l.memory) c z) (summed (done c (run calls l)).0 (spent p calls l))
      go unmade y i = tt
      go (since g h) y i =
          ap₂ summed (call_reports g h (run calls l) y c ∙ ap (λ (n : ℕ). reports g h (events n g c)) (kept p l start calls).roomy) i
          ∙ added g h (events (length l.memory) g c)

  module _ (calls : List Call) (g : Geometry) (h : List Event) (is : past_of p calls l ≡ since g h) where
    pub spent-is : spent p calls l ≡ reported_by (since g h)
    spent-is = subst (λ (z : Past). Paid z (spent p calls l)) is (paid calls)

    -- all insertions since the last accepted Make, those before the start among them: what is reported now may have been marked then
    pub never_more : (spent p calls l).examined ≤ 2 ^ g.e * insertions h
    never_more = rw spent-is (bound (slot_of g) page_of (2 ^ g.e) h)

    -- and no more places are dropped than blocks were inserted
    pub never_more_dropped : (spent p calls l).dropped ≤ insertions h
    never_more_dropped = rw spent-is (dropped_bound (slot_of g) page_of (2 ^ g.e) (slot_lt g) first_of 4096 in_page_lem its_page h)
