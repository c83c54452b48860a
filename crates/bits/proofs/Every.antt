-- Tests that antt computes at every number below a bound, and the law that turns such a test into its rule at each number.
-- Assumes nothing.
use mathlib.Core.Path.{◌≡◌, subst, sym}
use mathlib.Core.Bool.{Bool, true, false, ◌&&◌, ◌||◌, not}
use Prim.Native.Nat.{ℕ, zero, suc, ◌<◌}
use native.Mathlib.Nat.{not-suc-le-zero}
use native.Mathlib.Omega.{arith}
use native.Mathlib.Decide.{ℕ_discrete}
use lib.Dec.{T}

abbrev pub every : ℕ → (ℕ → Bool) → Bool
every zero f = true
every (suc n) f = f n && every n f

pub both : (a b : Bool) → T (a && b) → T a × T b
both true b t = (tt, t)
both false b t = absurd t

-- a number is k or is not
pub decide : (x k : ℕ) {P : Type 0} → (x ≡ k → P) → ((x ≡ k → ⊥) → P) → P
decide x k {P} yes-case no-case = go (ℕ_discrete x k)
  where
    go : Dec (x ≡ k) → P
    go (yes e) = yes-case e
    go (no n) = no-case n

pub at : (n : ℕ) (f : ℕ → Bool) → T (every n f) → (k : ℕ) → k < n → T (f k)
at zero f t k h = absurd (not-suc-le-zero h)
at (suc n) f t k h =
    let s = both (f n) (every n f) t in
    decide k n (λ e. subst (λ (m : ℕ). T (f m)) (sym e) s.0) (λ ne. at n f s.1 k (omega arith))

-- what is shown at each number below n, as a tuple, holds at every number below n
abbrev pub All : ℕ → (ℕ → Type 0) → Type 0
All zero P = Unit {0}
All (suc n) P = All n P × P n

pub each : (n : ℕ) (P : ℕ → Type 0) → All n P → (k : ℕ) → k < n → P k
each zero P t k h = absurd (not-suc-le-zero h)
each (suc n) P t k h = decide k n (λ e. subst P (sym e) t.1) (λ ne. each n P t.0 k (omega arith))

-- a test of three numbers: where `hard` is false of the first two it computes with the third left open, elsewhere at each third number
module _ (l m n : ℕ) (hard : ℕ → ℕ → Bool) (f : ℕ → ℕ → ℕ → Bool)
    (open_test : (z : ℕ) → T (every l (λ x. every m (λ y. hard x y || f x y z))))
    (each_test : T (every l (λ x. every m (λ y. not (hard x y) || every n (λ z. f x y z))))) where
  pub at_three : (x y z : ℕ) → x < l → y < m → z < n → T (f x y z)
  at_three x y z hx hy hz =
      pick (hard x y)
      (at m (λ y. hard x y || f x y z) (at l (λ x. every m (λ y. hard x y || f x y z)) (open_test z) x hx) y hy)
      (at m (λ y. not (hard x y) || every n (λ z. f x y z)) (at l (λ x. every m (λ y. not (hard x y) || every n (λ z. f x y z))) each_test x hx) y hy)
    where
      pick : (h : Bool) → T (h || f x y z) → T (not h || every n (λ z. f x y z)) → T (f x y z)
      pick true s t = at n (λ z. f x y z) t z hz
      pick false s t = s
