-- Laws of counting.
-- Assumes nothing.
use mathlib.Core.Path.{◌≡◌, refl, sym, ap, ◌∙◌}
use mathlib.Core.Bool.{Bool, true, false, cond, ◌&&◌, not}
use Prim.Native.Nat.{ℕ, zero, suc, ◌+◌, ◌≤◌, ◌<◌}
use native.Mathlib.Omega.{arith}
use lib.Dec.{eqb}
use borrow.Author.Tests.{eqb-true, eq-eqb, ne_eqb}
use Rattle.bits.specs.Count.{count}
use Rattle.bits.proofs.Every.{decide}
use Rattle.bits.proofs.Tests.{and_both}

pub count-le : (n : ℕ) (f : ℕ → Bool) → count n f ≤ n
unfolding count
count-le zero f = omega arith
count-le (suc n) f = go (count-le n f) (f n)
  where
    go : count n f ≤ n → (t : Bool) → count n f + cond t 1 0 ≤ suc n
    go ih true = omega arith
    go ih false = omega arith

pub count_same : (n : ℕ) (f g : ℕ → Bool) → ((i : ℕ) → i < n → f i ≡ g i) → count n f ≡ count n g
unfolding count
count_same zero f g same = refl
count_same (suc n) f g same = rw (count_same n f g (λ i l. same i (omega arith)), same n (omega arith))

pub count_none : (n : ℕ) (f : ℕ → Bool) → ((i : ℕ) → i < n → f i ≡ false) → count n f ≡ 0
unfolding count
count_none zero f fails = refl
count_none (suc n) f fails = rw (count_none n f (λ i l. fails i (omega arith)), fails n (omega arith))

-- what passes k passes one of f and g
pub count_apart : (n : ℕ) (f g k : ℕ → Bool) → ((i : ℕ) → i < n → cond (f i) 1 0 + cond (g i) 1 0 ≡ cond (k i) 1 0) → count n f + count n g ≡ count n k
unfolding count
count_apart zero f g k apart = refl
count_apart (suc n) f g k apart = omega (arith, count_apart n f g k (λ i l. apart i (omega arith)), apart n (omega arith))

-- tests that differ at x at most
pub count_but_one : (n x : ℕ) (f g : ℕ → Bool) → x < n → ((i : ℕ) → (i ≡ x → ⊥) → f i ≡ g i) → count n f + cond (g x) 1 0 ≡ count n g + cond (f x) 1 0
unfolding count
count_but_one zero x f g l same = absurd (omega arith)
count_but_one (suc n) x f g l same =
    decide x n
    (λ e. rw (e, count_same n f g (λ i c. same i (λ q. omega arith))) (turned (count n g) (cond (f n) 1 0) (cond (g n) 1 0)))
    (λ d. rw (same n (λ q. d (sym q))) (omega (arith, count_but_one n x f g (omega arith) same)))
  where
    turned : (a b c : ℕ) → a + b + c ≡ a + c + b
    turned a b c = omega arith

-- a number below n that passes
pub record Some (n : ℕ) (f : ℕ → Bool) : Type 0 where
  pub at : ℕ
  pub below : at < n
  pub passes : f at ≡ true

pub count-some : (n : ℕ) (f : ℕ → Bool) → 1 ≤ count n f → Some n f
unfolding count
count-some zero f l = absurd (omega arith)
count-some (suc n) f l = go (count-some n f) (f n) refl l
  where
    go : (1 ≤ count n f → Some n f) → (t : Bool) → f n ≡ t → 1 ≤ count n f + cond t 1 0 → Some (suc n) f
    go ih true e c = record { at = n; below = omega arith; passes = e }
    go ih false e c = let s = ih (omega arith) in record { at = s.at; below = omega (arith, s.below); passes = s.passes }

-- a test that x fails besides
abbrev but : ℕ → (ℕ → Bool) → ℕ → Bool
but x f i = not (eqb i x) && f i

count_one : (n : ℕ) (f : ℕ → Bool) (s : Some n f) → count n f ≡ suc (count n (but s.at f))
count_one n f s =
    let e = count_but_one n s.at f (but s.at f) s.below (λ i d. rw (ne_eqb i s.at d)) in
    omega (arith, rw (eq-eqb s.at s.at refl, s.passes) at e)

pub some-count : (n : ℕ) (f : ℕ → Bool) → Some n f → 1 ≤ count n f
some-count n f s = omega (arith, count_one n f s)

-- where each number that passes f comes from one that passes g, no fewer pass g
pub count_onto : (n m : ℕ) (f g : ℕ → Bool) (from : ℕ → ℕ) → ((i : ℕ) → i < n → f i ≡ true → Some m (λ k. eqb (from k) i && g k)) → count n f ≤ count m g
unfolding count
count_onto zero m f g from onto = omega arith
count_onto (suc n) m f g from onto = go (λ k o. count_onto n m f k from o) (f n) refl
  where
    go : ((k : ℕ → Bool) → ((i : ℕ) → i < n → f i ≡ true → Some m (λ j. eqb (from j) i && k j)) → count n f ≤ count m k) → (t : Bool) → f n ≡ t → count n f + cond t 1 0 ≤ count m g
    go ih true e =
        let s = onto n (omega arith) e in
        let last = and_both (eqb (from s.at) n) (g s.at) s.passes in
        let rest = ih (but s.at g) (λ i l p. other i l s last.0 (onto i (omega arith) p)) in
        omega (arith, rest, count_one m g (record { at = s.at; below = s.below; passes = last.1 }))
      where
        other : (i : ℕ) → i < n → (s : Some m (λ k. eqb (from k) n && g k)) → eqb (from s.at) n ≡ true → Some m (λ k. eqb (from k) i && g k) → Some m (λ k. eqb (from k) i && but s.at g k)
        other i l s e t =
            let both = and_both (eqb (from t.at) i) (g t.at) t.passes in
            let apart : t.at ≡ s.at → ⊥ = λ q. omega (arith, l, sym (eqb-true (from t.at) i both.0) ∙ ap from q ∙ eqb-true (from s.at) n e) in
            record { at = t.at; below = t.below; passes = rw (both.0, ne_eqb t.at s.at apart, both.1) }
    go ih false e = omega (arith, ih g (λ i l. onto i (omega arith)))
