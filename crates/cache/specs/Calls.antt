-- The cache's calls, in their order of checks (docs/FORMATS.md): the answer, and every byte of the store afterwards.
-- Assumes nothing.
use Rattle.std.specs.Prelude.{ℕ, ◌+◌, ◌/◌, ◌^◌, Bool, true, false, cond, ◌&&◌, List, ◌++◌, eqb, length, take, Option, Some, None, Ok, Err}
use Rattle.bits.specs.Bytes.{doubleword_at, patch}
use Rattle.block.specs.WellFormed.{well_formed}
use Rattle.store.specs.Layout.{header_len, header, in_bounds, front, store_len, geometry, opened, holds, memory_page, slot_of, place_at, generation_of, bumped}
use Rattle.store.specs.Places.{page_bit, with_bit, place_for, emptied, each_place, places_in, blank}
use Rattle.store.specs.declared.Geometry.{Geometry}
use Rattle.answer.specs.declared.Refusal.TheVariants.{NoStore, BadGeometry, OutsideMemory, IllFormed, WrongBuffer, NothingFound}
use Rattle.cache.specs.Answers.{nothing_done, hit_at}
use Rattle.cache.specs.declared.Report.{Report}
use Rattle.answer.specs.Answer.{Answer, done}
use Rattle.cache.specs.declared.Hit.{Hit}

-- Make: 2, 1, by the length alone. Generation 1, a zero bitmap, empty places.
abbrev pub make_judged : ℕ → ℕ → ℕ → ℕ → ℕ → Answer Geometry
make_judged reading e base pages len =
    cond (in_bounds reading e base pages)
    (cond (eqb len (store_len (geometry reading e base pages))) (Ok (geometry reading e base pages)) (Err NoStore))
    (Err BadGeometry)

abbrev pub make_by : Answer Geometry → List ℕ → Answer (Unit {0}) × List ℕ
make_by (Ok g) s = (done, header g 1 ++ blank g)
make_by (Err why) s = (Err why, s)

abbrev pub make_call : ℕ → ℕ → ℕ → ℕ → List ℕ → Answer (Unit {0}) × List ℕ
make_call reading e base pages s = make_by (make_judged reading e base pages (length s)) s

-- Lookup: 1, 9. A hit is the place of the address's slot, where it holds that address.
abbrev pub place_of : Geometry → ℕ → ℕ
place_of g a = place_at g (slot_of g a)

abbrev pub lookup_by : Option Geometry → List ℕ → ℕ → Answer Hit
lookup_by (Some g) s a =
    cond (holds g a && eqb (doubleword_at s (place_of g a)) a) (hit_at (place_of g a) g.stride) (Err NothingFound)
lookup_by None s a = Err NoStore

abbrev pub lookup_call : List ℕ → ℕ → Answer Hit
lookup_call s a = lookup_by (opened s) s a

-- Insert: 1, 6, 3, 5. The page's bit, the generation, the place.
abbrev pub insert_judged : Option Geometry → ℕ → List ℕ → Answer Geometry
insert_judged (Some g) a rec =
    cond (eqb (length rec) 1040)
    (cond (holds g a) (cond (well_formed rec a) (Ok g) (Err IllFormed)) (Err OutsideMemory))
    (Err WrongBuffer)
insert_judged None a rec = Err NoStore

unfoldable pub inserted_in : Geometry → List ℕ → ℕ → List ℕ → List ℕ
inserted_in g s a rec = patch (bumped (with_bit s (memory_page g a) true)) (place_of g a) (place_for g rec)

abbrev pub insert_by : Answer Geometry → List ℕ → ℕ → List ℕ → Answer (Unit {0}) × List ℕ
insert_by (Ok g) s a rec = (done, inserted_in g s a rec)
insert_by (Err why) s a rec = (Err why, s)

abbrev pub insert_call : List ℕ → ℕ → List ℕ → Answer (Unit {0}) × List ℕ
insert_call s a rec = insert_by (insert_judged (opened s) a rec) s a rec

-- Notice: 1. In memory and with its bit set, the page's places become empty, and the bit is cleared.
abbrev pub watched : Geometry → List ℕ → ℕ → Bool
watched g s a = holds g a && page_bit s (memory_page g a)

unfoldable pub evicted : Geometry → List ℕ → ℕ → List ℕ
evicted g s a = each_place (emptied (a / 4096)) (front g.pages) g.stride (2 ^ g.e) (with_bit s (memory_page g a) false)

abbrev pub noticed_in : Geometry → List ℕ → ℕ → List ℕ
noticed_in g s a = cond (watched g s a) (evicted g s a) s

-- how many places have an address in the page of a
abbrev pub dropped_in : Geometry → List ℕ → ℕ → ℕ
dropped_in g s a = places_in (a / 4096) (front g.pages) g.stride (2 ^ g.e) s

-- what a notice reports, by the store before it
abbrev pub report_in : Geometry → List ℕ → ℕ → Report
report_in g s a = cond (watched g s a) (record { examined = 2 ^ g.e; dropped = dropped_in g s a }) nothing_done

-- two notices report together
abbrev pub summed : Report → Report → Report
summed p q = record { examined = p.examined + q.examined; dropped = p.dropped + q.dropped }

abbrev pub notice_by : Option Geometry → List ℕ → ℕ → Answer Report × List ℕ
notice_by (Some g) s a = (Ok (report_in g s a), noticed_in g s a)
notice_by None s a = (Err NoStore, s)

abbrev pub notice_call : List ℕ → ℕ → Answer Report × List ℕ
notice_call s a = notice_by (opened s) s a

-- Flush: 1. A zero bitmap, empty places; the header stays.
abbrev pub flush_by : Option Geometry → List ℕ → Answer (Unit {0}) × List ℕ
flush_by (Some g) s = (done, take header_len s ++ blank g)
flush_by None s = (Err NoStore, s)

abbrev pub flush_call : List ℕ → Answer (Unit {0}) × List ℕ
flush_call s = flush_by (opened s) s

-- Generation: 1.
abbrev pub generation_by : Option Geometry → List ℕ → Answer ℕ
generation_by (Some g) s = Ok (generation_of s)
generation_by None s = Err NoStore

abbrev pub generation_call : List ℕ → Answer ℕ
generation_call s = generation_by (opened s) s
