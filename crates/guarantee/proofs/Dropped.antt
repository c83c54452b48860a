-- For an operator: a notice reports as dropped the addresses of its page that a lookup hit just before, a list of notices and a guest write those of their pages.
-- Assumes nothing.
use mathlib.Core.Path.{◌≡◌, refl, sym, ap, ap₂, subst, ◌∙◌}
use mathlib.Core.Bool.{Bool, true, false, cond, ◌||◌, false≢true}
use mathlib.Core.List.{List, [], ◌∷◌}
use mathlib.Core.Logic.{◌⊎◌, inl, inr}
use mathlib.Core.Option.{Option, none, some}
use Prim.Native.Nat.{ℕ, ◌+◌, ◌-◌, ◌≤◌}
use native.Mathlib.Omega.{arith}
use lib.Dec.{eqb}
use lib.ListN.{length}
use borrow.Author.Tests.{eqb-true, eq-eqb}
use Rattle.bits.proofs.Count.{count_same, count-some, some-count}
use Rattle.bits.proofs.Every.{decide}
use Rattle.bits.proofs.Tests.{or_right}
use Rattle.answer.specs.declared.Refusal.{Refusal}
use Rattle.store.specs.Layout.{slot_of}
use Rattle.store.specs.declared.Geometry.{Geometry}
use Rattle.cache.specs.Answers.{reported}
use Rattle.cache.specs.Calls.{report_in, summed, notice_by, notice_call}
use Rattle.cache.specs.declared.Report.{Report}
use Rattle.notices.specs.Notices.{notices_call}
use Rattle.notices.specs.Pages.{names, report_once}
use Rattle.notices.proofs.Order.{report_once_lem}
use Rattle.write.specs.Write.{write_judged, report_pages, write_by, write_call}
use Rattle.history.specs.History.{Event, anything, shown}
use Rattle.guarantee.specs.Calls.{Call, Lent, run}
use Rattle.guarantee.specs.Past.{Past, since, page_of, past_of}
use Rattle.guarantee.specs.Stands.{Stands, Follows}
use Rattle.guarantee.specs.Answers.{lookup_answered, live}
use Rattle.guarantee.specs.Hits.{hits_in, hits_across, hits_over, HitIn, HitOver}
use Rattle.guarantee.proofs.Simulation.{first_of, in_page_lem, notice-reports}
use Rattle.guarantee.proofs.Lookup.{lookup-is}
use Rattle.guarantee.proofs.Run.{write_own}
use Rattle.guarantee.proofs.Guarantee.{stands, notice_answers}
use Rattle.answer.specs.Answer.{Answer, answer_number}
use Rattle.std.specs.Prelude.{Option as Maybe, Some, Ok, Err}

abbrev dropped_of : Answer Report → ℕ
dropped_of answer = (reported answer).dropped

-- a page has hits exactly when one of its addresses does, in any bytes
hits_one : (s : List ℕ) (p : ℕ) → 1 ≤ hits_in s p → HitIn s p
hits_one s p c =
    let w = count-some 4096 _ c in
    record { address = first_of p + w.at; in_page = in_page_lem p w.at w.below; hits = eqb-true _ _ w.passes }

one_hits : (s : List ℕ) (p : ℕ) → HitIn s p → 1 ≤ hits_in s p
one_hits s p w = some-count 4096 _ (record { at = w.address - first_of p; below = omega (arith, w.in_page); passes = rw back (eq-eqb _ _ w.hits) })
  where
    back : first_of p + (w.address - first_of p) ≡ w.address
    back = omega (arith, w.in_page)

-- and the two pages of a write
across_one : (s : List ℕ) (a b : ℕ) → 1 ≤ hits_across s a b → HitIn s (page_of a) ⊎ HitIn s (page_of b)
across_one s a b = go (eqb (page_of a) (page_of b))
  where
    go : (t : Bool) → 1 ≤ cond t (hits_in s (page_of a)) (hits_in s (page_of a) + hits_in s (page_of b)) → HitIn s (page_of a) ⊎ HitIn s (page_of b)
    go true c = inl (hits_one s (page_of a) c)
    go false c = decide (hits_in s (page_of a)) 0 (λ e. inr (hits_one s (page_of b) (omega arith))) (λ d. inl (hits_one s (page_of a) (omega arith)))

one_across : (s : List ℕ) (a b : ℕ) → HitIn s (page_of a) ⊎ HitIn s (page_of b) → 1 ≤ hits_across s a b
one_across s a b w = go (eqb (page_of a) (page_of b)) refl w
  where
    go : (t : Bool) → eqb (page_of a) (page_of b) ≡ t → HitIn s (page_of a) ⊎ HitIn s (page_of b) → 1 ≤ cond t (hits_in s (page_of a)) (hits_in s (page_of a) + hits_in s (page_of b))
    go true e (inl v) = one_hits s (page_of a) v
    go true e (inr v) = one_hits s (page_of a) (subst (HitIn s) (sym (eqb-true (page_of a) (page_of b) e)) v)
    go false e (inl v) = omega (arith, one_hits s (page_of a) v)
    go false e (inr v) = omega (arith, one_hits s (page_of b) v)

-- and the pages of a list
over_one : (s list : List ℕ) → 1 ≤ hits_over s list → HitOver s list
unfolding hits_over names
over_one s [] c = absurd (omega arith)
over_one s (a ∷ rest) c = decide (hits_in s (page_of a)) 0 (λ e. later (over_one s rest (omega (arith, most (names rest (page_of a)) refl)))) (λ d. here (hits_one s (page_of a) (omega arith)))
  where
    most : (t : Bool) → names rest (page_of a) ≡ t → hits_over s (a ∷ rest) ≤ hits_in s (page_of a) + hits_over s rest
    most true n = rw n (omega arith)
    most false n = rw n (omega arith)

    here : HitIn s (page_of a) → HitOver s (a ∷ rest)
    here w = record { page = page_of a; named = rw (eq-eqb (page_of a) (page_of a) refl); hit = w }

    later : HitOver s rest → HitOver s (a ∷ rest)
    later w = record { page = w.page; named = or_right (eqb (page_of a) w.page) w.named; hit = w.hit }

one_over : (s list : List ℕ) → HitOver s list → 1 ≤ hits_over s list
unfolding hits_over names
one_over s [] w = absurd (false≢true w.named)
one_over s (a ∷ rest) w = go (λ n. one_over s rest (record { page = w.page; named = n; hit = w.hit })) (eqb (page_of a) w.page) refl (names rest (page_of a)) refl w.named
  where
    go : (names rest w.page ≡ true → 1 ≤ hits_over s rest) → (t : Bool) → eqb (page_of a) w.page ≡ t → (u : Bool) → names rest (page_of a) ≡ u → (t || names rest w.page) ≡ true → 1 ≤ hits_over s (a ∷ rest)
    go ih true e true n k = rw n (omega (arith, ih (ap (names rest) (sym (eqb-true (page_of a) w.page e)) ∙ n)))
    go ih true e false n k = rw n (omega (arith, one_hits s (page_of a) (subst (HitIn s) (sym (eqb-true (page_of a) w.page e)) w.hit)))
    go ih false e true n k = rw n (omega (arith, ih k))
    go ih false e false n k = rw n (omega (arith, ih k))

-- in a store that stands for a past
module _ (g : Geometry) (h : List Event) (s : List ℕ) (y : Stands g h s) where
  -- what the past shows, a lookup hits
  live-hits : (p : ℕ) → live g h p ≡ hits_in s p
  live-hits p = count_same 4096 _ _ (λ k c. rw (lookup-is g h s y (first_of p + k)) (go (first_of p + k) (shown (slot_of g) page_of h (first_of p + k))))
    where
      go : (a : ℕ) (o : Option (List ℕ)) → anything o ≡ eqb (answer_number (lookup_answered g a o)) 0
      go a (some r) = refl
      go a none = refl

  notice_drops : (a : ℕ) → (report_in g s a).dropped ≡ hits_in s (page_of a)
  notice_drops a = ap (λ (r : Report). r.dropped) (notice-reports g h s y a) ∙ live-hits (page_of a)

  pages_drop : (a b : ℕ) → (report_pages g s a b).dropped ≡ hits_across s a b
  pages_drop a b = go (eqb (page_of a) (page_of b))
    where
      go : (t : Bool) → (cond t (report_in g s a) (summed (report_in g s a) (report_in g s b))).dropped ≡ cond t (hits_in s (page_of a)) (hits_in s (page_of a) + hits_in s (page_of b))
      go true = notice_drops a
      go false = ap₂ ◌+◌ (notice_drops a) (notice_drops b)

  list_drops : (list : List ℕ) → (report_once s list).dropped ≡ hits_over s list
  unfolding report_once hits_over
  list_drops [] = refl
  list_drops (a ∷ rest) = go (names rest (page_of a)) refl (list_drops rest)
    where
      go : (t : Bool) → names rest (page_of a) ≡ t → (report_once s rest).dropped ≡ hits_over s rest → (report_once s (a ∷ rest)).dropped ≡ hits_over s (a ∷ rest)
      go true n ih = rw n ih
      go false n ih = rw n (ap₂ ◌+◌ (ap (λ (o : Maybe Geometry). dropped_of (notice_by o s a).0) y.sound ∙ notice_drops a) ih)

  write_drops : (m : List ℕ) (a n v : ℕ) (r : Report) → (write_call s m a n v).0 ≡ Ok r → r.dropped ≡ hits_across s a (a + n - 1)
  write_drops m a n v r q = go (write_judged (Some g) (length m) a n) refl (rw y.sound at q)
    where
      refused : (why : Refusal) → Err why ≡ Ok r → ⊥
      refused why k = let z : ◌≡◌ {A = ℕ} 0 1 = cc in omega arith

      go : (j : Answer Geometry) → write_judged (Some g) (length m) a n ≡ j → (write_by (write_judged (Some g) (length m) a n) s m a n v).0 ≡ Ok r → r.dropped ≡ hits_across s a (a + n - 1)
      go (Ok k) e u = let own = write_own g h s y (length m) a n k e in ap dropped_of (sym (rw own.0 at u)) ∙ pages_drop a (a + n - 1)
      go (Err why) e u = absurd (refused why (rw e at u))

module _ (p : Past) (l : Lent) (start : Follows p l.store) (calls : List Call) (g : Geometry) (h : List Event) (is : past_of p calls l ≡ since g h) where
  -- a notice: the number, and that it is above 0 exactly when an address of the page hit just before
  pub dropped_is : (a : ℕ) → (reported (notice_call (run calls l).store a).0).dropped ≡ hits_in (run calls l).store (page_of a)
  dropped_is a = ap dropped_of (notice_answers p l start calls g h is a) ∙ live-hits g h (run calls l).store (stands p l start calls g h is) (page_of a)

  pub dropped_live : (a : ℕ) → 1 ≤ (reported (notice_call (run calls l).store a).0).dropped → HitIn (run calls l).store (page_of a)
  dropped_live a c = hits_one (run calls l).store (page_of a) (subst (λ (k : ℕ). 1 ≤ k) (dropped_is a) c)

  pub live_dropped : (a : ℕ) → HitIn (run calls l).store (page_of a) → 1 ≤ (reported (notice_call (run calls l).store a).0).dropped
  live_dropped a w = subst (λ (k : ℕ). 1 ≤ k) (sym (dropped_is a)) (one_hits (run calls l).store (page_of a) w)

  -- a list of notices, by the pages of its addresses
  module _ (list : List ℕ) where
    pub notices_dropped_is : (reported (notices_call (run calls l).store list).0).dropped ≡ hits_over (run calls l).store list
    notices_dropped_is =
        ap (λ (r : Report). r.dropped) (report_once_lem (run calls l).store list) ∙ list_drops g h (run calls l).store (stands p l start calls g h is) list

    pub notices_dropped_live : 1 ≤ (reported (notices_call (run calls l).store list).0).dropped → HitOver (run calls l).store list
    notices_dropped_live c = over_one (run calls l).store list (subst (λ (k : ℕ). 1 ≤ k) notices_dropped_is c)

    pub live_notices_dropped : HitOver (run calls l).store list → 1 ≤ (reported (notices_call (run calls l).store list).0).dropped
    live_notices_dropped w = subst (λ (k : ℕ). 1 ≤ k) (sym notices_dropped_is) (one_over (run calls l).store list w)

  -- an accepted guest write, by the pages of its first byte and its last
  module _ (a n v : ℕ) (r : Report) (accepted : (write_call (run calls l).store (run calls l).memory a n v).0 ≡ Ok r) where
    pub write_dropped_is : r.dropped ≡ hits_across (run calls l).store a (a + n - 1)
    write_dropped_is = write_drops g h (run calls l).store (stands p l start calls g h is) (run calls l).memory a n v r accepted

    pub write_dropped_live : 1 ≤ r.dropped → HitIn (run calls l).store (page_of a) ⊎ HitIn (run calls l).store (page_of (a + n - 1))
    write_dropped_live c = across_one (run calls l).store a (a + n - 1) (subst (λ (k : ℕ). 1 ≤ k) write_dropped_is c)

    pub live_write_dropped : HitIn (run calls l).store (page_of a) ⊎ HitIn (run calls l).store (page_of (a + n - 1)) → 1 ≤ r.dropped
    live_write_dropped w = subst (λ (k : ℕ). 1 ≤ k) (sym write_dropped_is) (one_across (run calls l).store a (a + n - 1) w)
