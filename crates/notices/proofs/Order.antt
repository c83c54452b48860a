-- A list of notices: the order and the number of its addresses do not matter, only their pages. On any bytes.
-- Assumes nothing.
use mathlib.Core.Path.{◌≡◌, refl, sym, ap, ap₂, ◌∙◌}
use mathlib.Core.Bool.{Bool, true, false, cond, ◌||◌}
use mathlib.Core.List.Perm
use mathlib.Core.List.{List, [], ◌∷◌, ◌++◌, append-nil, Mem, Subset, Perm, not-mem-nil, mem_of_ne_of_mem, mem-cons_self, mem-cons_of_mem}
use Prim.Native.Nat.{ℕ, ◌/◌}
use lib.Dec.{eqb}
use borrow.Author.Tests.{eqb-true, eqb-false, eq-eqb}
use Rattle.bits.proofs.Every.{decide}
use Rattle.bits.proofs.Tests.{or_right, not_true, true_false}
use Rattle.store.specs.Layout.{Fitting}
use Rattle.store.specs.declared.Geometry.{Geometry}
use Rattle.cache.specs.Answers.{nothing_done, reported}
use Rattle.cache.specs.Calls.{noticed_in, report_in, summed, notice_by, notice_call, flush_call}
use Rattle.cache.specs.declared.Report.{Report}
use Rattle.cache.proofs.Reports.{none-summed, summed_assoc}
use Rattle.cache.proofs.View.{fitting_noticed, report_apart}
use Rattle.cache.proofs.Order.{noticed_alike, report_alike, noticed_again, report_again, noticed_comm, report_comm, on_any_bytes, notice-opened}
use Rattle.cache.proofs.FlushAfter.{flush_after_notice}
use Rattle.notices.specs.Notices.{noticed_all, report_all, notices_by, notices_call}
use Rattle.notices.specs.Pages.{names, report_once}
use Rattle.answer.specs.Answer.{answer_number}
use Rattle.std.specs.Prelude.{Ok}

-- an address that a list has lies in a page that it names, and where it names a page, it has an address there
in_names : (list : List ℕ) (a : ℕ) → Mem a list → names list (a / 4096) ≡ true
unfolding names
in_names [] a m = absurd (not-mem-nil m)
in_names (b ∷ rest) a m =
    decide a b
    (λ e. rw (eq-eqb (b / 4096) (a / 4096) (ap (λ (x : ℕ). x / 4096) (sym e))))
    (λ n. or_right (eqb (b / 4096) (a / 4096)) (in_names rest a (mem_of_ne_of_mem n m)))

record Named (list : List ℕ) (page : ℕ) : Type 0 where
  address : ℕ
  member : Mem address list
  in_page : address / 4096 ≡ page

named : (list : List ℕ) (page : ℕ) → names list page ≡ true → Named list page
unfolding names
named [] page h = absurd (true_false h refl)
named (a ∷ rest) page h = go (named rest page) (eqb (a / 4096) page) refl h
  where
    go : (names rest page ≡ true → Named rest page) → (t : Bool) → eqb (a / 4096) page ≡ t → (t || names rest page) ≡ true → Named (a ∷ rest) page
    go later true e k = record { address = a; member = mem-cons_self; in_page = eqb-true (a / 4096) page e }
    go later false e k = let w = later k in record { address = w.address; member = mem-cons_of_mem a w.member; in_page = w.in_page }

names_more : (one two : List ℕ) (page : ℕ) → names two page ≡ true → names (one ++ two) page ≡ true
unfolding names
names_more [] two page h = h
names_more (a ∷ one) two page h = or_right (eqb (a / 4096) page) (names_more one two page h)

-- one notice ahead of a list
abbrev ahead : Report → Report × List ℕ → Report × List ℕ
ahead r rest = (summed r rest.0, rest.1)

ahead_ahead : (p q : Report) (rest : Report × List ℕ) → ahead p (ahead q rest) ≡ ahead (summed p q) rest
ahead_ahead p q rest = ap (λ (r : Report). (r, rest.1)) (sym (summed_assoc p q rest.0))

-- in a store whose header was checked
module _ (g : Geometry) where
  abbrev outcome : List ℕ → List ℕ → Report × List ℕ
  outcome s list = (report_all g s list, noticed_all g s list)

  outcome_next : (s : List ℕ) (a : ℕ) (rest : List ℕ) → outcome s (a ∷ rest) ≡ ahead (report_in g s a) (outcome (noticed_in g s a) rest)
  unfolding report_all noticed_all
  outcome_next s a rest = refl

  outcome_two : (s : List ℕ) (a b : ℕ) (rest : List ℕ) → outcome s (a ∷ b ∷ rest) ≡ ahead (summed (report_in g s a) (report_in g (noticed_in g s a) b)) (outcome (noticed_in g (noticed_in g s a) b) rest)
  outcome_two s a b rest =
      outcome_next s a (b ∷ rest)
      ∙ ap (ahead (report_in g s a)) (outcome_next (noticed_in g s a) b rest)
      ∙ ahead_ahead (report_in g s a) (report_in g (noticed_in g s a) b) (outcome (noticed_in g (noticed_in g s a) b) rest)

  swap : (s : List ℕ) → Fitting g s → (a b : ℕ) (rest : List ℕ) → outcome s (a ∷ b ∷ rest) ≡ outcome s (b ∷ a ∷ rest)
  swap s f a b rest =
      outcome_two s a b rest
      ∙ ap₂ (λ (r : Report) (z : List ℕ). ahead r (outcome z rest)) (report_comm g s f a b) (noticed_comm g s f a b)
      ∙ sym (outcome_two s b a rest)

  -- an address whose page comes again adds nothing
  absorb : (s : List ℕ) → Fitting g s → (a : ℕ) (list : List ℕ) → names list (a / 4096) ≡ true → outcome s (a ∷ list) ≡ outcome s list
  unfolding names
  absorb s f a [] h = absurd (true_false h refl)
  absorb s f a (b ∷ rest) h = go (absorb (noticed_in g s b) (fitting_noticed g s f b) a rest) (eqb (b / 4096) (a / 4096)) refl h
    where
      go : (names rest (a / 4096) ≡ true → outcome (noticed_in g s b) (a ∷ rest) ≡ outcome (noticed_in g s b) rest) → (t : Bool) → eqb (b / 4096) (a / 4096) ≡ t → (t || names rest (a / 4096)) ≡ true
          → outcome s (a ∷ b ∷ rest) ≡ outcome s (b ∷ rest)
      go later true e k =
          let same : a / 4096 ≡ b / 4096 = sym (eqb-true (b / 4096) (a / 4096) e) in
          outcome_two s a b rest
          ∙ ap₂ (λ (r : Report) (z : List ℕ). ahead r (outcome z rest))
          (ap (summed (report_in g s a)) (report_again g s f a b same) ∙ none-summed (report_in g s a) ∙ report_alike g s f a b same)
          (noticed_again g s f a b same ∙ noticed_alike g s f a b same)
          ∙ sym (outcome_next s b rest)
      go later false e k =
          swap s f a b rest ∙ outcome_next s b (a ∷ rest) ∙ ap (ahead (report_in g s b)) (later k) ∙ sym (outcome_next s b rest)

  absorb_all : (s : List ℕ) → Fitting g s → (one two : List ℕ) → ((page : ℕ) → names one page ≡ true → names two page ≡ true) → outcome s (one ++ two) ≡ outcome s two
  unfolding names
  absorb_all s f [] two h = refl
  absorb_all s f (a ∷ one) two h =
      absorb s f a (one ++ two) (names_more one two (a / 4096) (h (a / 4096) (rw (eq-eqb (a / 4096) (a / 4096) refl))))
      ∙ absorb_all s f one two (λ page k. h page (or_right (eqb (a / 4096) page) k))

  -- an address may stand anywhere, and two lists in either order
  anywhere : (s : List ℕ) → Fitting g s → (a : ℕ) (one two : List ℕ) → outcome s (one ++ a ∷ two) ≡ outcome s (a ∷ (one ++ two))
  anywhere s f a [] two = refl
  anywhere s f a (b ∷ one) two =
      outcome_next s b (one ++ a ∷ two)
      ∙ ap (ahead (report_in g s b)) (anywhere (noticed_in g s b) (fitting_noticed g s f b) a one two)
      ∙ sym (outcome_next s b (a ∷ (one ++ two)))
      ∙ swap s f b a (one ++ two)

  either : (s : List ℕ) → Fitting g s → (one two : List ℕ) → outcome s (one ++ two) ≡ outcome s (two ++ one)
  either s f [] two = ap (outcome s) (sym (append-nil two))
  either s f (a ∷ one) two =
      outcome_next s a (one ++ two)
      ∙ ap (ahead (report_in g s a)) (either (noticed_in g s a) (fitting_noticed g s f a) one two)
      ∙ sym (outcome_next s a (two ++ one))
      ∙ sym (anywhere s f a two one)

  outcome_same : (s : List ℕ) → Fitting g s → (one two : List ℕ) → ((page : ℕ) → names one page ≡ names two page) → outcome s one ≡ outcome s two
  outcome_same s f one two same =
      sym (absorb_all s f two one (λ page k. same page ∙ k))
      ∙ either s f two one
      ∙ absorb_all s f one two (λ page k. sym (same page) ∙ k)

  -- a notice in a page that a list does not name leaves what the list reports
  apart_all : (s : List ℕ) → Fitting g s → (a : ℕ) (list : List ℕ) → names list (a / 4096) ≡ false → report_all g (noticed_in g s a) list ≡ report_all g s list
  unfolding names report_all
  apart_all s f a [] h = refl
  apart_all s f a (b ∷ rest) h = go (apart_all (noticed_in g s b) (fitting_noticed g s f b) a rest) (eqb (b / 4096) (a / 4096)) refl h
    where
      go : (names rest (a / 4096) ≡ false → report_all g (noticed_in g (noticed_in g s b) a) rest ≡ report_all g (noticed_in g s b) rest) → (t : Bool) → eqb (b / 4096) (a / 4096) ≡ t → (t || names rest (a / 4096)) ≡ false
          → report_all g (noticed_in g s a) (b ∷ rest) ≡ report_all g s (b ∷ rest)
      go later true e k = absurd (true_false refl k)
      go later false e k =
          ap₂ summed (report_apart g s f a b (λ q. eqb-false (b / 4096) (a / 4096) e (sym q))) (ap (λ (z : List ℕ). report_all g z rest) (noticed_comm g s f a b) ∙ later k)

-- The laws of the call.
module _ (s : List ℕ) where
  -- an empty list changes nothing, and counts 0 and 0
  pub none-store : (notices_call s []).1 ≡ s
  unfolding noticed_all
  none-store = on_any_bytes s (λ o. (notices_by o s []).1 ≡ s) (λ g f. refl) refl

  pub none-report : reported (notices_call s []).0 ≡ nothing_done
  unfolding report_all
  none-report = on_any_bytes s (λ o. reported (notices_by o s []).0 ≡ nothing_done) (λ g f. refl) refl

  -- any list answers the number that one notice does, and a list of one is that notice
  pub same_number : (list : List ℕ) (a : ℕ) → answer_number (notices_call s list).0 ≡ answer_number (notice_call s a).0
  same_number list a = on_any_bytes s (λ o. answer_number (notices_by o s list).0 ≡ answer_number (notice_by o s a).0) (λ g f. refl) refl

  pub one_notice : (a : ℕ) → notices_call s (a ∷ []) ≡ notice_call s a
  unfolding noticed_all report_all
  one_notice a = on_any_bytes s (λ o. notices_by o s (a ∷ []) ≡ notice_by o s a) (λ g f. ap (λ (r : Report). (Ok r, noticed_in g s a)) (none-summed (report_in g s a))) refl

  -- one notice, and then the others
  module _ (a : ℕ) (rest : List ℕ) where
    pub next_store : (notices_call s (a ∷ rest)).1 ≡ (notices_call (notice_call s a).1 rest).1
    unfolding noticed_all
    next_store = rw (notice-opened s a) (on_any_bytes s (λ o. (notices_by o s (a ∷ rest)).1 ≡ (notices_by o (notice_by o s a).1 rest).1) (λ g f. refl) refl)

    pub next_report : reported (notices_call s (a ∷ rest)).0 ≡ summed (reported (notice_call s a).0) (reported (notices_call (notice_call s a).1 rest).0)
    unfolding report_all
    next_report =
        rw (notice-opened s a)
        (on_any_bytes s (λ o. reported (notices_by o s (a ∷ rest)).0 ≡ summed (reported (notice_by o s a).0) (reported (notices_by o (notice_by o s a).1 rest).0)) (λ g f. refl) refl)

  -- lists that name the same pages: the same number, the same sums, the same bytes
  pub same_pages : (one two : List ℕ) → ((page : ℕ) → names one page ≡ names two page) → notices_call s one ≡ notices_call s two
  same_pages one two same =
      on_any_bytes s (λ o. notices_by o s one ≡ notices_by o s two)
      (λ g f. ap (λ (o : Report × List ℕ). (Ok o.0, o.1)) (outcome_same g s f one two same)) refl

  -- by the store before the list: what one notice for each of its pages reports
  apart_report : (a : ℕ) (rest : List ℕ) → names rest (a / 4096) ≡ false → reported (notices_call (notice_call s a).1 rest).0 ≡ reported (notices_call s rest).0
  apart_report a rest apart =
      rw (notice-opened s a) (on_any_bytes s (λ o. reported (notices_by o (notice_by o s a).1 rest).0 ≡ reported (notices_by o s rest).0) (λ g f. apart_all g s f a rest apart) refl)

  pub report_once_lem : (list : List ℕ) → reported (notices_call s list).0 ≡ report_once s list
  unfolding names report_once
  report_once_lem [] = none-report
  report_once_lem (a ∷ rest) = go (names rest (a / 4096)) refl (report_once_lem rest)
    where
      named_too : names rest (a / 4096) ≡ true → (page : ℕ) → names (a ∷ rest) page ≡ names rest page
      named_too e page = again (eqb (a / 4096) page) refl
        where
          again : (t : Bool) → eqb (a / 4096) page ≡ t → (t || names rest page) ≡ names rest page
          again true k = sym (ap (names rest) (sym (eqb-true (a / 4096) page k)) ∙ e)
          again false k = refl

      go : (t : Bool) → names rest (a / 4096) ≡ t → reported (notices_call s rest).0 ≡ report_once s rest → reported (notices_call s (a ∷ rest)).0 ≡ cond t (report_once s rest) (summed (reported (notice_call s a).0) (report_once s rest))
      go true e ih = ap (λ r. reported r.0) (same_pages (a ∷ rest) rest (named_too e)) ∙ ih
      go false e ih = next_report a rest ∙ ap (summed (reported (notice_call s a).0)) (apart_report a rest e ∙ ih)

  -- and so are lists with the same members, in any order and number, and a list in another order
  pub same_members : (one two : List ℕ) → Subset one two → Subset two one → notices_call s one ≡ notices_call s two
  same_members one two there back = same_pages one two (λ page. go page (names one page) refl (names two page) refl)
    where
      over : (x y : List ℕ) → Subset x y → (page : ℕ) → names x page ≡ true → names y page ≡ true
      over x y h page k = let w = named x page k in ap (names y) (sym w.in_page) ∙ in_names y w.address (h w.address w.member)

      go : (page : ℕ) (t : Bool) → names one page ≡ t → (u : Bool) → names two page ≡ u → names one page ≡ names two page
      go page true e u k = e ∙ sym (over one two there page e)
      go page false e true k = over two one back page k ∙ sym k
      go page false e false k = e ∙ sym k

  pub any_order : (one two : List ℕ) → Perm one two → notices_call s one ≡ notices_call s two
  any_order one two p = same_members one two (Perm.subset p) (Perm.subset (Perm.symm p))

  -- addresses of one page are one notice
  pub one_page : (a : ℕ) (rest : List ℕ) → ((b : ℕ) → Mem b rest → b / 4096 ≡ a / 4096) → notices_call s (a ∷ rest) ≡ notice_call s a
  unfolding names
  one_page a rest all = same_pages (a ∷ rest) (a ∷ []) (λ page. go page (eqb (a / 4096) page) refl) ∙ one_notice a
    where
      go : (page : ℕ) (t : Bool) → eqb (a / 4096) page ≡ t → (t || names rest page) ≡ (t || false)
      go page true e = refl
      go page false e = not_true (names rest page) (λ k. let w = named rest page k in eqb-false (a / 4096) page e (sym (all w.address w.member) ∙ w.in_page))

-- what a flush leaves does not show that there were notices
pub flush_after_notices : (s list : List ℕ) → flush_call (notices_call s list).1 ≡ flush_call s
flush_after_notices s [] = ap flush_call (none-store s)
flush_after_notices s (a ∷ rest) = ap flush_call (next_store s a rest) ∙ flush_after_notices (notice_call s a).1 rest ∙ flush_after_notice s a
