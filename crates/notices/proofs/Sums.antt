-- A list of notices, one more at a time; and how large its sums are: a page's bit is spent once.
-- Assumes nothing.
use mathlib.Core.Path.{◌≡◌, refl, sym, ap, subst, ◌∙◌}
use mathlib.Core.Bool.{Bool, true, false, cond}
use mathlib.Core.List.{List, [], ◌∷◌, ◌++◌}
use Prim.Native.Nat.{ℕ, ◌+◌, ◌*◌, ◌^◌, ◌≤◌, ◌<◌}
use native.Mathlib.Omega.{arith}
use native.Mathlib.Nat.{mul-le-mul, mul-add}
use native.Mathlib.Numerals.{add-one}
use lib.Dec.{eqb}
use lib.ListN.{length, take, get_or}
use lib.Seq.{take-suc}
use borrow.Author.Tests.{eq-eqb, ne_eqb}
use Rattle.bits.specs.Count.{count}
use Rattle.bits.proofs.Count.{count-le, count_same, count_but_one}
use Rattle.bits.proofs.Tests.{and_both}
use Rattle.store.specs.Layout.{Fitting, holds, memory_page}
use Rattle.store.specs.Places.{page_bit}
use Rattle.store.specs.declared.Geometry.{Geometry}
use Rattle.store.proofs.Known.{page-lt, slots_le}
use Rattle.cache.specs.Answers.{nothing_done}
use Rattle.cache.specs.Calls.{watched, evicted, noticed_in, dropped_in, report_in, summed}
use Rattle.cache.specs.declared.Report.{Report}
use Rattle.cache.proofs.Reports.{summed-none, none-summed, summed_assoc}
use Rattle.cache.proofs.View.{bits-evicted, fitting_noticed}
use Rattle.notices.specs.Notices.{noticed_all, report_all}

module _ (g : Geometry) where
  pub fitting_all : (s : List ℕ) → Fitting g s → (list : List ℕ) → Fitting g (noticed_all g s list)
  unfolding noticed_all
  fitting_all s f [] = f
  fitting_all s f (a ∷ list) = fitting_all (noticed_in g s a) (fitting_noticed g s f a) list

  -- two lists, one behind the other
  pub noticed_append : (s one two : List ℕ) → noticed_all g s (one ++ two) ≡ noticed_all g (noticed_all g s one) two
  unfolding noticed_all
  noticed_append s [] two = refl
  noticed_append s (a ∷ one) two = noticed_append (noticed_in g s a) one two

  pub report-append : (s one two : List ℕ) → report_all g s (one ++ two) ≡ summed (report_all g s one) (report_all g (noticed_all g s one) two)
  unfolding noticed_all report_all
  report-append s [] two = sym (summed-none (report_all g s two))
  report-append s (a ∷ one) two =
      ap (summed (report_in g s a)) (report-append (noticed_in g s a) one two)
      ∙ sym (summed_assoc (report_in g s a) (report_all g (noticed_in g s a) one) (report_all g (noticed_all g (noticed_in g s a) one) two))

  -- the pages with their bit set
  abbrev pub marks : List ℕ → ℕ
  marks s = count g.pages (page_bit s)

  -- a notice examines all slots for one bit less
  module _ (s : List ℕ) (f : Fitting g s) (a : ℕ) where
    one_less : watched g s a ≡ true → marks (evicted g s a) + 1 ≡ marks s
    one_less e =
        let same : marks (evicted g s a) ≡ count g.pages left = count_same g.pages _ left (λ q b. bits-evicted g s f a able.0 q b) in
        let off : left page ≡ false = rw (eq-eqb page page refl) in
        let w = count_but_one g.pages page left (page_bit s) (page-lt g a able.0) (λ q n. rw (ne_eqb page q (λ k. n (sym k)))) in
        let z = rw (off, able.1) at w in
        omega (arith, same, z)
      where
        able : (holds g a ≡ true) × (page_bit s (memory_page g a) ≡ true)
        able = and_both (holds g a) _ e

        page : ℕ
        page = memory_page g a

        left : ℕ → Bool
        left q = cond (eqb page q) false (page_bit s q)

    spends : (report_in g s a).examined + 2 ^ g.e * marks (noticed_in g s a) ≡ 2 ^ g.e * marks s
    spends = go (watched g s a) refl
      where
        go : (t : Bool) → watched g s a ≡ t → (report_in g s a).examined + 2 ^ g.e * marks (noticed_in g s a) ≡ 2 ^ g.e * marks s
        go true e = rw (e, ← one_less e, mul-add) (omega arith)
        go false e = rw e (omega arith)

    drops_less : (report_in g s a).dropped ≤ (report_in g s a).examined
    drops_less = go (watched g s a)
      where
        go : (t : Bool) → (cond t (record { examined = 2 ^ g.e; dropped = dropped_in g s a }) nothing_done).dropped ≤ (cond t (record { examined = 2 ^ g.e; dropped = dropped_in g s a }) nothing_done).examined
        go true = count-le (2 ^ g.e) _
        go false = omega arith

  -- a list examines all slots for each bit that it clears, and drops no more places than it examines
  pub examined-is : (s : List ℕ) → Fitting g s → (list : List ℕ) → (report_all g s list).examined + 2 ^ g.e * marks (noticed_all g s list) ≡ 2 ^ g.e * marks s
  unfolding noticed_all report_all
  examined-is s f [] = omega arith
  examined-is s f (a ∷ list) = let one = spends s f a in let rest = examined-is (noticed_in g s a) (fitting_noticed g s f a) list in omega arith

  pub dropped_fewer : (s : List ℕ) → Fitting g s → (list : List ℕ) → (report_all g s list).dropped ≤ (report_all g s list).examined
  unfolding report_all
  dropped_fewer s f [] = omega arith
  dropped_fewer s f (a ∷ list) = let one = drops_less s f a in let rest = dropped_fewer (noticed_in g s a) (fitting_noticed g s f a) list in omega arith

  abbrev Room : Report → Type 0
  Room r = (r.examined < 2 ^ 64) × (r.dropped < 2 ^ 64)

  -- at most all slots for all pages
  pub small : (s : List ℕ) → Fitting g s → (list : List ℕ) → ((report_all g s list).examined ≤ 2 ^ 30) × ((report_all g s list).dropped ≤ 2 ^ 30)
  small s f list =
      let all : 2 ^ g.e * marks s ≤ 16384 * 65536 = mul-le-mul {n₂ = 16384} {m₂ = 65536} (slots_le g f.bounds) (let w = count-le g.pages (page_bit s) in omega (arith, f.bounds.most)) in
      let one = examined-is s f list in
      let two = dropped_fewer s f list in
      (omega arith, omega arith)

  -- the first i addresses of a list are noticed, and one more
  module _ (s list : List ℕ) (i : ℕ) (h : i < length list) where
    one_more : take (i + 1) list ≡ take i list ++ get_or list i 0 ∷ []
    one_more = rw add-one (take-suc list i 0 h)

    module _ (z : List ℕ) (left : z ≡ noticed_all g s (take i list)) where
      pub noticed_more : noticed_in g z (get_or list i 0) ≡ noticed_all g s (take (i + 1) list)
      unfolding noticed_all
      noticed_more = rw left (sym (ap (noticed_all g s) one_more ∙ noticed_append s (take i list) (get_or list i 0 ∷ [])))

      module _ (p q : Report) (far : p ≡ report_all g s (take i list)) (next : q ≡ report_in g z (get_or list i 0)) where
        pub report_more : summed p q ≡ report_all g s (take (i + 1) list)
        unfolding report_all
        report_more =
            rw (far, next, left)
            (sym (ap (report_all g s) one_more ∙ report-append s (take i list) (get_or list i 0 ∷ [])
            ∙ ap (summed (report_all g s (take i list))) (none-summed (report_in g (noticed_all g s (take i list)) (get_or list i 0)))))

        -- what was summed and the next report have room in 64 bits
        pub sums_fit : Fitting g s → (p.examined + q.examined < 2 ^ 64) × (p.dropped + q.dropped < 2 ^ 64)
        sums_fit f = subst Room (sym report_more) (let w = small s f (take (i + 1) list) in (omega arith, omega arith))
