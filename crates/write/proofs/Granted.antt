-- What the checks of an accepted write have shown, and how large a notice's report is.
-- Assumes nothing.
use mathlib.Core.Path.{◌≡◌, refl, sym, subst}
use mathlib.Core.Bool.{Bool, true, false, cond}
use mathlib.Core.List.{List}
use Prim.Native.Nat.{ℕ, ◌+◌, ◌*◌, ◌/◌, ◌^◌, ◌≤◌}
use native.Mathlib.Omega.{arith}
use lib.Dec.{eqb}
use borrow.Author.Tests.{eqb-true, ne_eqb}
use Rattle.bits.proofs.Count.{count-le}
use Rattle.bits.proofs.Every.{decide}
use Rattle.bits.proofs.Tests.{true_false}
use Rattle.block.specs.Memory.{spans}
use Rattle.block.proofs.Places.{spanned}
use Rattle.store.specs.Layout.{opened, Bounded}
use Rattle.store.specs.Places.{place_in, in_page}
use Rattle.store.specs.declared.Geometry.{Geometry}
use Rattle.store.proofs.Known.{slots_le}
use Rattle.cache.proofs.Checks.{rejected}
use Rattle.cache.specs.Answers.{nothing_done}
use Rattle.cache.specs.Calls.{watched, dropped_in, report_in}
use Rattle.answer.specs.declared.Refusal.TheVariants.{BadGeometry, OutsideMemory, WrongWriteSize}
use Rattle.cache.specs.declared.Report.{Report}
use Rattle.write.specs.Write.{good_size, write_judged}
use Rattle.std.specs.Prelude.{Option, Some, None, Ok, Err}

pub size_small : (n : ℕ) → good_size n ≡ true → (1 ≤ n) × (n ≤ 8)
size_small n h =
    decide n 1 (λ e. omega arith)
    (λ a. decide n 2 (λ e. omega arith)
    (λ b. decide n 4 (λ e. omega arith)
    (λ c. decide n 8 (λ e. omega arith)
    (λ d. absurd (true_false h (rw (ne_eqb n 1 a, ne_eqb n 2 b, ne_eqb n 4 c, ne_eqb n 8 d)))))))

pub record Granted (s : List ℕ) (len a n : ℕ) (g : Geometry) : Type 0 where
  pub sound : opened s ≡ Some g
  pub whole : len ≡ 4096 * g.pages
  pub some : 1 ≤ n
  pub few : n ≤ 8
  pub low : g.base ≤ a
  pub high : a + n ≤ g.base + 4096 * g.pages

module _ (s : List ℕ) (len a n : ℕ) (g : Geometry) where
  pub write_granted : write_judged (opened s) len a n ≡ Ok g → Granted s len a n g
  write_granted h = go (opened s) refl h
    where
      facts : opened s ≡ Some g → len ≡ 4096 * g.pages → good_size n ≡ true → spans (4096 * g.pages) g.base a n ≡ true → Granted s len a n g
      facts e w t i =
          let b = spanned (4096 * g.pages) g.base a n i in
          let r = size_small n t in
          record { sound = e; whole = w; some = r.0; few = r.1; low = b.0; high = b.1 }

      tests : (k : Geometry) → opened s ≡ Some k → (x y z : Bool) → eqb len (4096 * k.pages) ≡ x → good_size n ≡ y → spans (4096 * k.pages) k.base a n ≡ z → cond x (cond y (cond z (Ok k) (Err OutsideMemory)) (Err WrongWriteSize)) (Err BadGeometry) ≡ Ok g → Granted s len a n g
      tests k e true true true ex ey ez q =
          let w : k ≡ g = cc in
          subst (λ (z : Geometry). opened s ≡ Some z → len ≡ 4096 * z.pages → spans (4096 * z.pages) z.base a n ≡ true → Granted s len a n g) (sym w)
          (λ p r i. facts p r ey i) e (eqb-true _ _ ex) ez
      tests k e true true false ex ey ez q = absurd (rejected q)
      tests k e true false z ex ey ez q = absurd (rejected q)
      tests k e false y z ex ey ez q = absurd (rejected q)

      go : (o : Option Geometry) → opened s ≡ o → write_judged o len a n ≡ Ok g → Granted s len a n g
      go (Some k) e q = tests k e (eqb len (4096 * k.pages)) (good_size n) (spans (4096 * k.pages) k.base a n) refl refl refl q
      go None e q = absurd (rejected q)

abbrev Small : Report → Type 0
Small r = (r.examined ≤ 16384) × (r.dropped ≤ 16384)

pub report-small : (g : Geometry) (s : List ℕ) (a : ℕ) (r : Report) → Bounded g → r ≡ report_in g s a → Small r
report-small g s a r b e = subst Small (sym e) (go (watched g s a))
  where
    go : (x : Bool) → Small (cond x (record { examined = 2 ^ g.e; dropped = dropped_in g s a }) nothing_done)
    go true = (slots_le g b, omega (arith, slots_le g b, count-le (2 ^ g.e) (λ i. in_page (a / 4096) (place_in g s i))))
    go false = (omega arith, omega arith)
