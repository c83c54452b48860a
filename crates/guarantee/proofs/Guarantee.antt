-- What any history guarantees. After any calls on a store that stands for a past, from the last accepted Make on: what each call answers, by the past that the calls tell and
-- no byte of the store. For a store with no past, `unmade`, the first bytes are any.
-- Assumes nothing.
use mathlib.Core.Path.{◌≡◌, refl, sym, ap, subst, ◌∙◌}
use mathlib.Core.List.{List}
use mathlib.Core.Option.{Option, none, some}
use Prim.Native.Nat.{ℕ, ◌+◌, ◌-◌, ◌%◌, ◌^◌}
use native.Mathlib.Omega.{arith}
use lib.ListN.{length}
use Rattle.bits.proofs.Tests.{not_true}
use Rattle.store.specs.Layout.{slot_of}
use Rattle.store.specs.Places.{record_in}
use Rattle.store.specs.declared.Geometry.{Geometry}
use Rattle.cache.specs.Answers.{nothing_done, reported}
use Rattle.cache.specs.Calls.{make_judged, make_by, make_call, lookup_call, insert_judged, insert_by, insert_call, notice_call, flush_call, generation_call}
use Rattle.notices.specs.Notices.{notices_call}
use Rattle.write.specs.Write.{write_judged, write_call}
use Rattle.history.specs.History.{Event, insertions, shown, marked, Lives, Marked}
use Rattle.history.proofs.Sentences.{shown_lives, lives_shown, marked-is, is-marked, shown_was}
use Rattle.guarantee.specs.Calls.{write, Call, Lent, run, looked_up}
use Rattle.guarantee.specs.Past.{Past, since, page_of, touches, events, past_of}
use Rattle.guarantee.specs.Stands.{Possible, Stands, Follows}
use Rattle.guarantee.specs.Answers.{lookup_answered, part_for, report, reports, answered, write_answered}
use Rattle.guarantee.proofs.Simulation.{fits-accepted, unmarked_drops, notice-reports, notices-reports, write-reports}
use Rattle.guarantee.proofs.Lookup.{lookup-is, lookup_returns}
use Rattle.guarantee.proofs.Run.{write_own, kept}
use Rattle.answer.specs.Answer.{Answer, answer_number}
use Rattle.cache.specs.declared.Report.{Report}
use Rattle.std.specs.Prelude.{Some, Ok, Err}

-- a write in a store that stands for a past
pub write-is : (g : Geometry) (h : List Event) (s : List ℕ) → Stands g h s → (m : List ℕ) (a n v : ℕ) → (write_call s m a n v).0 ≡ write_answered (write_judged (Some g) (length m) a n) (reports g h (events (length m) g (write a n v)))
unfolding events
write-is g h s y m a n v = go (write_judged (Some g) (length m) a n) refl
  where
    go : (j : Answer Geometry) → write_judged (Some g) (length m) a n ≡ j → (write_call s m a n v).0 ≡ write_answered (write_judged (Some g) (length m) a n) (reports g h (events (length m) g (write a n v)))
    go (Ok k) e = let own = write_own g h s y (length m) a n k e in rw (y.sound, own.0) (ap Ok (write-reports g h s y a (a + n - 1)))
    go (Err why) e = rw (y.sound, e)

module _ (p : Past) (l : Lent) (start : Follows p l.store) (calls : List Call) (g : Geometry) (h : List Event) (is : past_of p calls l ≡ since g h) where
  -- the store stands for the past that the calls tell
  pub stands : Stands g h (run calls l).store
  stands = subst (λ (z : Past). Follows z (run calls l).store) is (kept p l start calls).follows

  -- a lookup's answer: its slot's place where the past shows a record, nothing found where it shows none
  pub lookup_answers : (a : ℕ) → lookup_call (run calls l).store a ≡ lookup_answered g a (shown (slot_of g) page_of h a)
  lookup_answers a = lookup-is g h (run calls l).store stands a

  -- and the part that it returns: what a place holds for the record that the past shows, byte for byte
  pub hits : (a : ℕ) → looked_up (run calls l) a ≡ part_for g (shown (slot_of g) page_of h a)
  hits a = lookup_returns g h (run calls l).store stands a

  -- where the past shows a record the number is 0 and the part shows that record; and the other way round
  shown_hit : (a : ℕ) (r : List ℕ) → shown (slot_of g) page_of h a ≡ some r → (answer_number (lookup_call (run calls l).store a) ≡ 0) × (record_in g (looked_up (run calls l) a) ≡ r)
  shown_hit a r e =
      let fits = fits-accepted g (run calls l).store stands.sound a r (shown_was (slot_of g) page_of (Possible g) h stands.accepted a r e) in
      (ap answer_number (lookup_answers a ∙ ap (lookup_answered g a) e), ap (record_in g) (hits a ∙ ap (part_for g) e) ∙ fits.back)

  pub hit_shown : (a : ℕ) → answer_number (lookup_call (run calls l).store a) ≡ 0 → shown (slot_of g) page_of h a ≡ some (record_in g (looked_up (run calls l) a))
  hit_shown a e = go (shown (slot_of g) page_of h a) refl (ap answer_number (sym (lookup_answers a)) ∙ e)
    where
      go : (o : Option (List ℕ)) → shown (slot_of g) page_of h a ≡ o → answer_number (lookup_answered g a o) ≡ 0 → o ≡ some (record_in g (looked_up (run calls l) a))
      go (some r) k z = ap some (sym (shown_hit a r k).1)
      go none k z = absurd (omega (arith, z))

  -- in one sentence (docs/FORMATS.md, Hits): a lookup hits exactly when its address had an accepted insertion, and since came none in its slot, no notice or write in its page, and no flush; and it shows that record
  pub hit_lives : (a : ℕ) → answer_number (lookup_call (run calls l).store a) ≡ 0 → Lives (slot_of g) page_of h a (record_in g (looked_up (run calls l) a))
  hit_lives a e = shown_lives (slot_of g) page_of h a _ (hit_shown a e)

  pub lives_hit : (a : ℕ) (r : List ℕ) → Lives (slot_of g) page_of h a r → (answer_number (lookup_call (run calls l).store a) ≡ 0) × (record_in g (looked_up (run calls l) a) ≡ r)
  lives_hit a r e = shown_hit a r (lives_shown (slot_of g) page_of h a r e)

  -- which calls are accepted, and what notices and writes report
  pub make_answers : (reading e base pages : ℕ) → (make_call reading e base pages (run calls l).store).0 ≡ answered (make_judged reading e base pages (length l.store))
  make_answers reading e base pages = go (make_judged reading e base pages (length (run calls l).store)) ∙ ap (λ (n : ℕ). answered (make_judged reading e base pages n)) (kept p l start calls).stored
    where
      go : (j : Answer Geometry) → (make_by j (run calls l).store).0 ≡ answered j
      go (Ok k) = refl
      go (Err why) = refl

  pub insert_answers : (a : ℕ) (rec : List ℕ) → (insert_call (run calls l).store a rec).0 ≡ answered (insert_judged (Some g) a rec)
  insert_answers a rec = rw stands.sound (go (insert_judged (Some g) a rec))
    where
      go : (j : Answer Geometry) → (insert_by j (run calls l).store a rec).0 ≡ answered j
      go (Ok k) = refl
      go (Err why) = refl

  pub notice_answers : (a : ℕ) → (notice_call (run calls l).store a).0 ≡ Ok (report g h (page_of a))
  notice_answers a = rw stands.sound (ap Ok (notice-reports g h (run calls l).store stands a))

  pub notices_answers : (list : List ℕ) → (notices_call (run calls l).store list).0 ≡ Ok (reports g h (touches list))
  notices_answers list = rw stands.sound (ap Ok (notices-reports g h (run calls l).store stands list))

  -- in one sentence (docs/FORMATS.md, Slots examined): every slot exactly when the page had an accepted insertion, and since came no notice or write in it, and no flush
  pub examines_all : (a : ℕ) → Marked (slot_of g) page_of h (page_of a) → (reported (notice_call (run calls l).store a).0).examined ≡ 2 ^ g.e
  examines_all a m = ap (λ (r : Answer Report). (reported r).examined) (notice_answers a) ∙ rw (is-marked (slot_of g) page_of h (page_of a) m)

  pub examines_none : (a : ℕ) → (Marked (slot_of g) page_of h (page_of a) → ⊥) → (notice_call (run calls l).store a).0 ≡ Ok nothing_done
  examines_none a n =
      let m = not_true (marked (slot_of g) page_of h (page_of a)) (λ e. n (marked-is (slot_of g) page_of h (page_of a) e)) in
      notice_answers a ∙ rw (m, unmarked_drops g h (run calls l).store stands a m)

  pub flush_answers : (flush_call (run calls l).store).0 ≡ Ok tt
  flush_answers = rw stands.sound

  pub generation_answers : generation_call (run calls l).store ≡ Ok ((insertions h + 1) % 2 ^ 64)
  generation_answers = rw stands.sound (ap Ok stands.age)

  pub write_answers : (a n v : ℕ) → (write_call (run calls l).store (run calls l).memory a n v).0 ≡ write_answered (write_judged (Some g) (length l.memory) a n) (reports g h (events (length l.memory) g (write a n v)))
  write_answers a n v =
      write-is g h (run calls l).store stands (run calls l).memory a n v
      ∙ ap (λ (z : ℕ). write_answered (write_judged (Some g) z a n) (reports g h (events z g (write a n v)))) (kept p l start calls).roomy
