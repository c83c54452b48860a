-- The slots that a history's notices examine are at most n for each accepted insertion: each touch that examines any uses up an insertion.
-- Assumes nothing.
use mathlib.Core.Path.{◌≡◌, refl, sym, ◌∙◌}
use mathlib.Core.Bool.{Bool, true, false, cond, ◌&&◌, ◌||◌, not, false≢true}
use mathlib.Core.List.{List, [], ◌∷◌}
use Prim.Native.Nat.{ℕ, suc, ◌+◌, ◌*◌, ◌≤◌}
use native.Mathlib.Omega.{arith}
use native.Mathlib.Nat.{mul-zero, mul-suc, mul-le-mul_left}
use borrow.Author.Tests.{eqb-true, eqb-false}
use lib.Dec.{eqb}
use lib.ListN.{length}
use Rattle.history.specs.History.{Event, inserted, touched, flushed, insertions, marked, examined, total}

-- the pages of the insertions since their last touch, each as often as it had one
without : ℕ → List ℕ → List ℕ
without p [] = []
without p (q ∷ l) = cond (eqb q p) (without p l) (q ∷ without p l)

has : ℕ → List ℕ → Bool
has p [] = false
has p (q ∷ l) = eqb q p || has p l

without_le : (p : ℕ) (l : List ℕ) → length (without p l) ≤ length l
unfolding without
without_le p [] = omega arith
without_le p (q ∷ l) = go (without_le p l) (eqb q p)
  where
    go : length (without p l) ≤ length l → (t : Bool) → length (cond t (without p l) (q ∷ without p l)) ≤ suc (length l)
    go ih true = omega arith
    go ih false = omega arith

without_less : (p : ℕ) (l : List ℕ) → has p l ≡ true → suc (length (without p l)) ≤ length l
unfolding without has
without_less p [] e = absurd (false≢true e)
without_less p (q ∷ l) e = go (without_less p l) (without_le p l) (eqb q p) e
  where
    go : (has p l ≡ true → suc (length (without p l)) ≤ length l) → length (without p l) ≤ length l → (t : Bool) → (t || has p l) ≡ true → suc (length (cond t (without p l) (q ∷ without p l))) ≤ suc (length l)
    go ih w true k = omega arith
    go ih w false k = omega (arith, ih k)

has_without : (p q : ℕ) (l : List ℕ) → has p (without q l) ≡ (not (eqb q p) && has p l)
unfolding without has
has_without p q [] = none (eqb q p)
  where
    none : (t : Bool) → false ≡ (not t && false)
    none true = refl
    none false = refl
has_without p q (x ∷ l) = go (has_without p q l) (eqb x q) (eqb q p) (eqb x p) refl refl refl
  where
    go : has p (without q l) ≡ (not (eqb q p) && has p l) → (t u w : Bool) → eqb x q ≡ t → eqb q p ≡ u → eqb x p ≡ w → has p (cond t (without q l) (x ∷ without q l)) ≡ (not u && (w || has p l))
    go ih true true w et eu ew = ih ∙ rw eu
    go ih true false true et eu ew = absurd (eqb-false q p eu (sym (eqb-true x q et) ∙ eqb-true x p ew))
    go ih true false false et eu ew = ih ∙ rw eu
    go ih false true true et eu ew = absurd (eqb-false x q et (eqb-true x p ew ∙ sym (eqb-true q p eu)))
    go ih false true false et eu ew = rw ew (ih ∙ rw eu)
    go ih false false true et eu ew = rw ew
    go ih false false false et eu ew = rw ew (ih ∙ rw eu)

module _ (slot page : ℕ → ℕ) where
  marks : List Event → List ℕ
  marks [] = []
  marks (inserted a r ∷ h) = page a ∷ marks h
  marks (touched p ∷ h) = without p (marks h)
  marks (flushed ∷ h) = []

  marked_has : (h : List Event) (p : ℕ) → marked slot page h p ≡ has p (marks h)
  unfolding marked marks has
  marked_has [] p = refl
  marked_has (inserted a r ∷ h) p = rw (marked_has h p)
  marked_has (touched q ∷ h) p = rw (marked_has h p) (sym (has_without p q (marks h)))
  marked_has (flushed ∷ h) p = refl

  paid : (n : ℕ) (h : List Event) → total (examined slot page n) h + n * length (marks h) ≤ n * insertions h
  unfolding total insertions marks
  paid n [] = simp mul-zero (omega arith)
  paid n (inserted a r ∷ h) = simp mul-suc (omega (arith, paid n h))
  paid n (touched p ∷ h) = go (paid n h) (marked slot page h p) refl
    where
      go : total (examined slot page n) h + n * length (marks h) ≤ n * insertions h → (t : Bool) → marked slot page h p ≡ t → cond t n 0 + total (examined slot page n) h + n * length (without p (marks h)) ≤ n * insertions h
      go ih true et =
          let w : n * suc (length (without p (marks h))) ≤ n * length (marks h) = mul-le-mul_left n (without_less p (marks h) (sym (marked_has h p) ∙ et)) in
          omega (arith, rw mul-suc at w)
      go ih false et = omega (arith, mul-le-mul_left n (without_le p (marks h)))
  paid n (flushed ∷ h) = simp mul-zero (omega (arith, paid n h))

  pub bound : (n : ℕ) (h : List Event) → total (examined slot page n) h ≤ n * insertions h
  bound n h = omega (arith, paid n h)
