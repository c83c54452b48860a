-- Laws of `all_zero`, byte by byte.
-- Assumes nothing.
use mathlib.Core.Path.{◌≡◌, refl, sym, ◌∙◌}
use mathlib.Core.Bool.{Bool, true, false, ◌&&◌}
use Prim.Native.Nat.{ℕ, zero, suc}
use mathlib.Core.List.{List, [], ◌∷◌}
use native.Mathlib.Omega.{arith}
use lib.Bits.{bit_or, or_add_and, and_le_l, and_le_r}
use lib.Dec.{eqb}
use lib.ListN.{replicate}
use Rattle.std.specs.List.{fold}
use borrow.Author.Tests.{eq-eqb, ne_eqb, eqb-true}
use Rattle.bits.proofs.Every.{decide}
use Rattle.bits.proofs.Tests.{and_both, not_true}
use Rattle.block.specs.WellFormed.{all_zero}

-- two numbers put together bit by bit are 0 where both are
or-zero : (a b : ℕ) → eqb (bit_or a b) 0 ≡ (eqb a 0 && eqb b 0)
or-zero a b =
    decide (bit_or a b) 0
    (λ e. let n : a ≡ 0 = omega (arith, or_add_and a b, and_le_r a b) in let m : b ≡ 0 = omega (arith, or_add_and a b, and_le_l a b) in rw (eq-eqb (bit_or a b) 0 e, eq-eqb a 0 n, eq-eqb b 0 m))
    (λ n. rw (ne_eqb (bit_or a b) 0 n) (sym (not_true (eqb a 0 && eqb b 0) (λ h. let t = and_both (eqb a 0) (eqb b 0) h in n (rw (eqb-true a 0 t.0, eqb-true b 0 t.1))))))

pub and_true : (b : Bool) → (b && true) ≡ b
and_true true = refl
and_true false = refl

and_assoc : (a b c : Bool) → ((a && b) && c) ≡ (a && (b && c))
and_assoc true b c = refl
and_assoc false b c = refl

-- the bytes put together bit by bit, from n on, are 0 where n is and all bytes are
pub seen_all : (n : ℕ) (s : List ℕ) → eqb (fold bit_or n s) 0 ≡ (eqb n 0 && all_zero s)
unfolding all_zero
seen_all n [] = sym (and_true (eqb n 0))
seen_all n (b ∷ s) = seen_all (bit_or n b) s ∙ rw (or-zero n b) (and_assoc (eqb n 0) (eqb b 0) (all_zero s))

pub zero_all : (n : ℕ) → all_zero (replicate n 0) ≡ true
unfolding all_zero
zero_all zero = refl
zero_all (suc n) = zero_all n
