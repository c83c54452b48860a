-- Tests of a difference, where the definition has a sum that could wrap in the code.
-- Assumes nothing.
use mathlib.Core.Path.{◌≡◌, refl, sym}
use mathlib.Core.Bool.{Bool, true, false}
use Prim.Native.Nat.{ℕ, ◌+◌, ◌-◌, ◌≤◌}
use native.Mathlib.Omega.{arith}
use lib.Dec.{leb}
use borrow.Author.Tests.{le-leb, leb-true}

same : (s t : Bool) → (s ≡ true → t ≡ true) → (t ≡ true → s ≡ true) → s ≡ t
same true t f g = sym (f refl)
same false true f g = g refl
same false false f g = refl

pub apart : (a b m n : ℕ) → b ≤ a → n ≤ m → leb (a - b) (m - n) ≡ leb (a + n) (b + m)
apart a b m n h k =
    same (leb (a - b) (m - n)) (leb (a + n) (b + m))
    (λ t. le-leb (a + n) (b + m) (omega (arith, leb-true (a - b) (m - n) t)))
    (λ t. le-leb (a - b) (m - n) (omega (arith, leb-true (a + n) (b + m) t)))

pub room : (a b n : ℕ) → b ≤ n → leb a (n - b) ≡ leb (a + b) n
room a b n h =
    same (leb a (n - b)) (leb (a + b) n)
    (λ t. le-leb (a + b) n (omega (arith, leb-true a (n - b) t)))
    (λ t. le-leb a (n - b) (omega (arith, leb-true (a + b) n t)))
