-- A list of notices is its notices, one after the other: anywhere in any history, on any bytes, the same buffers, the same past and the same sums. And the
-- order of notices that follow each other does not matter there.
-- Assumes nothing.
use mathlib.Core.Path.{◌≡◌, refl, sym, ap, ap₂, ◌∙◌}
use mathlib.Core.List.{List, [], ◌∷◌, ◌++◌, append_assoc}
use Prim.Native.Nat.{ℕ}
use lib.ListN.{length}
use Rattle.cache.specs.Answers.{nothing_done, reported}
use Rattle.cache.specs.Calls.{make_judged, make_call, notice_call, summed}
use Rattle.cache.specs.declared.Report.{Report}
use Rattle.cache.proofs.Reports.{summed-none}
use Rattle.notices.specs.Notices.{notices_call}
use Rattle.notices.specs.Pages.{names}
use Rattle.notices.proofs.Order.{none-store, none-report, next_store, next_report, same_pages}
use Rattle.history.specs.History.{touched}
use Rattle.guarantee.specs.Calls.{notice, notices, Call, make, uses, Lent, storing, done, run, each_notice}
use Rattle.guarantee.specs.Past.{Past, unmade, since, page_of, if_accepted, touches, events, grown, past, past_of}
use Rattle.guarantee.specs.Answers.{spent}
use Rattle.guarantee.proofs.Spent.{turned}
use Rattle.answer.specs.Answer.{Answer}

-- whatever a list of calls tells, if an empty list of notices adds nothing to it and any other its first notice before the rest
module _ {A : Type 0} (tells : List Call → A) (none : (calls : List Call) → tells (uses (notices []) ∷ calls) ≡ tells calls) (next : (a : ℕ) (rest : List ℕ) (calls : List Call) → tells (uses (notices (a ∷ rest)) ∷ calls) ≡ tells (uses (notices rest) ∷ uses (notice a) ∷ calls)) where
  one_by_one : (list : List ℕ) (calls : List Call) → tells (uses (notices list) ∷ calls) ≡ tells (each_notice list ++ calls)
  unfolding each_notice
  one_by_one [] calls = none calls
  one_by_one (a ∷ rest) calls = next a rest calls ∙ one_by_one rest (uses (notice a) ∷ calls) ∙ ap tells (sym (append_assoc (each_notice rest) (uses (notice a) ∷ []) calls))

-- calls that leave the same are followed by calls that leave the same
module _ (l : Lent) where
  later_run : (later one two : List Call) → run one l ≡ run two l → run (later ++ one) l ≡ run (later ++ two) l
  unfolding run
  later_run [] one two e = e
  later_run (make reading e base pages ∷ later) one two q = ap (λ (z : Lent). storing z (make_call reading e base pages z.store).1) (later_run later one two q)
  later_run (uses c ∷ later) one two q = ap (λ (z : Lent). (done c z).1) (later_run later one two q)

  module _ (p : Past) where
    later_past : (later one two : List Call) → past_of p one l ≡ past_of p two l → past_of p (later ++ one) l ≡ past_of p (later ++ two) l
    unfolding past
    later_past [] one two q = q
    later_past (make reading e base pages ∷ later) one two q = ap (if_accepted (make_judged reading e base pages (length l.store)) (λ g. since g [])) (later_past later one two q)
    later_past (uses c ∷ later) one two q = ap (grown (length l.memory) c) (later_past later one two q)

    later_spent : (later one two : List Call) → run one l ≡ run two l → spent p one l ≡ spent p two l → spent p (later ++ one) l ≡ spent p (later ++ two) l
    unfolding spent
    later_spent [] one two r q = q
    later_spent (make reading e base pages ∷ later) one two r q = ap (if_accepted (make_judged reading e base pages (length l.store)) (λ g. nothing_done)) (later_spent later one two r q)
    later_spent (uses c ∷ later) one two r q = ap₂ (λ (z : Lent) (w : Report). summed (done c z).0 w) (later_run later one two r) (later_spent later one two r q)

-- in the place of a list of notices each of them, wherever the list stands among the calls
module _ (l : Lent) where
  newest_run : (list : List ℕ) (calls : List Call) → run (uses (notices list) ∷ calls) l ≡ run (each_notice list ++ calls) l
  unfolding run done
  newest_run =
      one_by_one (λ calls. run calls l)
      (λ calls. ap (storing (run calls l)) (none-store (run calls l).store))
      (λ a rest calls. ap (storing (run calls l)) (next_store (run calls l).store a rest))

  pub notices-run : (list : List ℕ) (later calls : List Call) → run (later ++ uses (notices list) ∷ calls) l ≡ run (later ++ (each_notice list ++ calls)) l
  notices-run list later calls = later_run l later (uses (notices list) ∷ calls) (each_notice list ++ calls) (newest_run list calls)

  module _ (p : Past) where
    newest_past : (list : List ℕ) (calls : List Call) → past_of p (uses (notices list) ∷ calls) l ≡ past_of p (each_notice list ++ calls) l
    unfolding past events touches
    newest_past = one_by_one (λ calls. past_of p calls l) (λ calls. none (past_of p calls l)) (λ a rest calls. next a rest (past_of p calls l))
      where
        none : (z : Past) → grown (length l.memory) (notices []) z ≡ z
        none unmade = refl
        none (since g h) = refl

        next : (a : ℕ) (rest : List ℕ) (z : Past) → grown (length l.memory) (notices (a ∷ rest)) z ≡ grown (length l.memory) (notices rest) (grown (length l.memory) (notice a) z)
        next a rest unmade = refl
        next a rest (since g h) = ap (since g) (append_assoc (touches rest) (touched (page_of a) ∷ []) h)

    pub notices_past : (list : List ℕ) (later calls : List Call) → past_of p (later ++ uses (notices list) ∷ calls) l ≡ past_of p (later ++ (each_notice list ++ calls)) l
    notices_past list later calls = later_past l p later (uses (notices list) ∷ calls) (each_notice list ++ calls) (newest_past list calls)

    newest_spent : (list : List ℕ) (calls : List Call) → spent p (uses (notices list) ∷ calls) l ≡ spent p (each_notice list ++ calls) l
    unfolding spent run done
    newest_spent = one_by_one (λ calls. spent p calls l) none next
      where
        none : (calls : List Call) → spent p (uses (notices []) ∷ calls) l ≡ spent p calls l
        none calls = ap (λ (r : Report). summed r (spent p calls l)) (none-report (run calls l).store) ∙ summed-none (spent p calls l)

        next : (a : ℕ) (rest : List ℕ) (calls : List Call) → spent p (uses (notices (a ∷ rest)) ∷ calls) l ≡ spent p (uses (notices rest) ∷ uses (notice a) ∷ calls) l
        next a rest calls =
            let s = (run calls l).store in
            ap (λ (r : Report). summed r (spent p calls l)) (next_report s a rest) ∙ turned (reported (notice_call s a).0) (reported (notices_call (notice_call s a).1 rest).0) (spent p calls l)

    pub notices-spent : (list : List ℕ) (later calls : List Call) → spent p (later ++ uses (notices list) ∷ calls) l ≡ spent p (later ++ (each_notice list ++ calls)) l
    notices-spent list later calls = later_spent l p later (uses (notices list) ∷ calls) (each_notice list ++ calls) (newest_run list calls) (newest_spent list calls)

-- so single notices that follow each other may be sorted, and repeats in a page dropped, wherever they stand
module _ (l : Lent) (one two : List ℕ) (same : (page : ℕ) → names one page ≡ names two page) where
  same_run : (calls : List Call) → run (each_notice one ++ calls) l ≡ run (each_notice two ++ calls) l
  unfolding run done
  same_run calls = sym (newest_run l one calls) ∙ ap (λ (r : Answer Report × List ℕ). storing (run calls l) r.1) (same_pages (run calls l).store one two same) ∙ newest_run l two calls

  pub order_run : (later calls : List Call) → run (later ++ (each_notice one ++ calls)) l ≡ run (later ++ (each_notice two ++ calls)) l
  order_run later calls = later_run l later (each_notice one ++ calls) (each_notice two ++ calls) (same_run calls)

  module _ (p : Past) where
    same_spent : (calls : List Call) → spent p (each_notice one ++ calls) l ≡ spent p (each_notice two ++ calls) l
    unfolding spent run done
    same_spent calls =
        sym (newest_spent l p one calls)
        ∙ ap (λ (r : Answer Report × List ℕ). summed (reported r.0) (spent p calls l)) (same_pages (run calls l).store one two same)
        ∙ newest_spent l p two calls

    pub order_spent : (later calls : List Call) → spent p (later ++ (each_notice one ++ calls)) l ≡ spent p (later ++ (each_notice two ++ calls)) l
    order_spent later calls = later_spent l p later (each_notice one ++ calls) (each_notice two ++ calls) (same_run calls) (same_spent calls)
