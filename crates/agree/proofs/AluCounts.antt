-- The language's counts of bits are the manual's scans and sum, of zero too.
-- Assumes nothing.
use mathlib.Core.Path.{◌≡◌, refl, sym, ap, ap₂, ◌∙◌, subst}
use mathlib.Core.Logic.{◌⊎◌, inl, inr}
use mathlib.Core.Bool.{Bool, cond}
use Prim.Native.Nat.{ℕ, zero, suc, ◌+◌, ◌-◌, ◌*◌, ◌/◌, ◌%◌, ◌^◌, ◌≤◌, ◌<◌}
use native.Mathlib.Omega.{arith}
use native.Mathlib.Nat.{mod-lt, pow-suc, div-one}
use borrow.Author.Tests.{eq-eqb, ne_eqb}
use lib.Dec.{eqb}
use lib.Arith.{lt-one}
use lib.Pow.{pow_pos, split}
use lib.Count.{ones, ones_in, ones_cat, count_leading_zeros, leading_length, leading_unique, count_trailing_zeros, under}
use Rattle.bits.specs.Bits.{bit}
use Rattle.bits.proofs.Bit.{lt-or-ge, bit-lt, bit-mod, bit_top, bit-suc}
use Rattle.alu.specs.Rust.{as_u32}
use Rattle.manual.specs.Alu.{zeros, set_bits}

zeros_same : (n : ℕ) (f g : ℕ → ℕ) → ((i : ℕ) → i < n → f i ≡ g i) → zeros f n ≡ zeros g n
unfolding zeros
zeros_same zero f g e = refl
zeros_same (suc n) f g e =
    ap₂ (λ (d t : ℕ). cond (eqb d 0) (suc t) 0) (e 0 (omega arith))
    (zeros_same n (λ i. f (suc i)) (λ i. g (suc i)) (λ i h. e (suc i) (omega arith)))

small_of : (n x : ℕ) → x / 2 ^ n ≡ 0 → x < 2 ^ n
small_of n x e =
    let p : 0 * 2 ^ n + x % 2 ^ n ≡ x = subst (λ (q : ℕ). q * 2 ^ n + x % 2 ^ n ≡ x) e (split x n) in
    let q = mod-lt x (pow_pos n) in
    omega arith

big_of : (n x : ℕ) → x / 2 ^ n ≡ 1 → 2 ^ n ≤ x
big_of n x e =
    let p : 1 * 2 ^ n + x % 2 ^ n ≡ x = subst (λ (q : ℕ). q * 2 ^ n + x % 2 ^ n ≡ x) e (split x n) in
    omega arith

-- from the top bit down
pub clz_is : (n x : ℕ) → x < 2 ^ n → count_leading_zeros n x ≡ zeros (λ i. bit x (n - 1 - i)) n
unfolding zeros count_leading_zeros
clz_is zero x h = refl
clz_is (suc n) x h = by (λ (k : x < 2 ^ n). clz_is n x k ∙ tail) (lt-or-ge (bit x n) 1) ∙ ap (λ (m : ℕ). cond (eqb (bit x m) 0) (suc (zeros (λ i. bit x (suc n - 1 - suc i)) n)) 0) top
  where
    top : n ≡ suc n - 1 - 0
    top = omega arith

    tail : zeros (λ i. bit x (n - 1 - i)) n ≡ zeros (λ i. bit x (suc n - 1 - suc i)) n
    tail = zeros_same n (λ i. bit x (n - 1 - i)) (λ i. bit x (suc n - 1 - suc i)) (λ i k. ap (bit x) (omega arith))

    by : (x < 2 ^ n → count_leading_zeros n x ≡ zeros (λ i. bit x (suc n - 1 - suc i)) n) → (bit x n < 1) ⊎ (1 ≤ bit x n)
        → count_leading_zeros (suc n) x ≡ cond (eqb (bit x n) 0) (suc (zeros (λ i. bit x (suc n - 1 - suc i)) n)) 0
    by rest (inl k) =
        let e : bit x n ≡ 0 = omega arith in
        let small : x < 2 ^ n = small_of n x (sym (bit_top n x h) ∙ e) in
        let l = leading_length n x small in
        sym (leading_unique (suc n) x (suc (count_leading_zeros n x)) l.0 (omega (arith, l.1)) l.2 l.3)
        ∙ ap suc (rest small)
        ∙ sym (ap (λ (t : Bool). cond t (suc (zeros (λ i. bit x (suc n - 1 - suc i)) n)) 0) (eq-eqb (bit x n) 0 e))
    by rest (inr k) =
        let e : bit x n ≡ 1 = let b = bit-lt x n in omega arith in
        sym (leading_unique (suc n) x 0 (suc n) (omega arith) h (omega (arith, big_of n x (sym (bit_top n x h) ∙ e), pow-suc 2 n)))
        ∙ sym (ap (λ (t : Bool). cond t (suc (zeros (λ i. bit x (suc n - 1 - suc i)) n)) 0) (ne_eqb (bit x n) 0 (λ z. omega arith)))

under_is : (d t : ℕ) → under d t ≡ cond (eqb d 0) (suc t) 0
under_is zero t = refl
under_is (suc d) t = sym (ap (λ (b : Bool). cond b (suc t) 0) (ne_eqb (suc d) 0 (λ z. omega arith)))

-- from the lowest bit up
pub ctz_is : (n x : ℕ) → count_trailing_zeros n x ≡ zeros (bit x) n
unfolding zeros count_trailing_zeros
ctz_is zero x = refl
ctz_is (suc n) x =
    under_is (x % 2) (count_trailing_zeros n (x / 2))
    ∙ ap₂ (λ (d t : ℕ). cond (eqb d 0) (suc t) 0) (ap (λ (y : ℕ). y % 2) (sym (div-one x)))
    (ctz_is n (x / 2) ∙ zeros_same n (bit (x / 2)) (λ i. bit x (suc i)) (λ i h. sym (bit-suc x i)))

ones_bit : (d : ℕ) → d < 2 → ones d ≡ d
unfolding ones ones_in
ones_bit zero h = refl
ones_bit (suc zero) h = refl
ones_bit (suc (suc d)) h = absurd (omega arith)

-- the low n bits decide
set-mod : (m n x : ℕ) → m ≤ n → set_bits m (x % 2 ^ n) ≡ set_bits m x
unfolding set_bits
set-mod zero n x h = refl
set-mod (suc m) n x h = ap₂ (λ (p q : ℕ). p + q) (bit-mod n x m h) (set-mod m n x (omega arith))

pub cpop_is : (n x : ℕ) → x < 2 ^ n → ones x ≡ set_bits n x
unfolding set_bits
cpop_is zero x h = ap ones (lt-one h) ∙ ones_bit 0 (omega arith)
cpop_is (suc n) x h =
    ap ones (sym (split x n))
    ∙ ones_cat n (x / 2 ^ n) (x % 2 ^ n) (mod-lt x (pow_pos n))
    ∙ ap₂ (λ (p q : ℕ). p + q)
    (ap ones (sym (bit_top n x h)) ∙ ones_bit (bit x n) (bit-lt x n))
    (cpop_is n (x % 2 ^ n) (mod-lt x (pow_pos n)) ∙ set-mod n n x (omega arith))

-- of the low word
pub clzw_is : (a : ℕ) → count_leading_zeros 32 (as_u32 a) ≡ zeros (λ i. bit a (31 - i)) 32
clzw_is a =
    clz_is 32 (as_u32 a) (mod-lt a (pow_pos 32))
    ∙ zeros_same 32 (λ i. bit (as_u32 a) (31 - i)) (λ i. bit a (31 - i)) (λ i h. bit-mod 32 a (31 - i) (omega arith))

pub ctzw_is : (a : ℕ) → count_trailing_zeros 32 (as_u32 a) ≡ zeros (bit a) 32
ctzw_is a = ctz_is 32 (as_u32 a) ∙ zeros_same 32 (bit (as_u32 a)) (bit a) (λ i h. bit-mod 32 a i h)

pub cpopw_is : (a : ℕ) → ones (as_u32 a) ≡ set_bits 32 a
cpopw_is a = cpop_is 32 (as_u32 a) (mod-lt a (pow_pos 32)) ∙ set-mod 32 32 a (omega arith)
