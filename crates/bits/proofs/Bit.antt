-- Laws of a number's bits, at any width: which bits the operators give, and that a number is the word of its bits.
-- Assumes nothing.
use mathlib.Core.Path.{◌≡◌, refl, sym, ap, ap₂, ◌∙◌, subst}
use mathlib.Core.Logic.{◌⊎◌, inl, inr}
use Prim.Native.Nat.{ℕ, zero, suc, ◌+◌, ◌-◌, ◌*◌, ◌/◌, ◌%◌, ◌^◌, ◌≤◌, ◌<◌, min, max}
use native.Mathlib.Omega.{arith}
use native.Mathlib.Nat.{mod-lt, mod-eq_of_lt, zero-lt-suc, pow-suc, pow-succ', div-eq_of_lt, mul_assoc, lt_of_le_of_lt, lt_of_lt_of_le, lt_of_not-le}
use native.Mathlib.Numerals.{one-add}
use native.Mathlib.Decide.{dec_le}
use lib.Arith.{lt-one, digits_lt, digits_mod}
use lib.Dec.{T, ltb, lit<}
use lib.Pow.{pow_pos, pow_mono, pow-add, split, field, mod-mod-pow, shr-shr, shr_lt, shl-shr}
use lib.Bits.{bit_and, bit_or, bit_xor, differ, and_step, or_step, xor_step, and_shr, or_shr, xor_shr, shifted_even, and_le_r}
use Rattle.bits.specs.Bits.{bit, from_bits}

pub lt-or-ge : (a b : ℕ) → (a < b) ⊎ (b ≤ a)
lt-or-ge a b = by (dec_le b a)
  where
    by : Dec (b ≤ a) → (a < b) ⊎ (b ≤ a)
    by (yes h) = inr h
    by (no f) = inl (lt_of_not-le f)

pub bit-lt : (x i : ℕ) → bit x i < 2
bit-lt x i = mod-lt (x / 2 ^ i) (zero-lt-suc 1)

-- with n written out as j + 1 + i
mod-bit : (x i j : ℕ) → bit (x % 2 ^ ((j + 1) + i)) i ≡ bit x i
mod-bit x i j = ap (λ (y : ℕ). y % 2) (field x (j + 1) i) ∙ mod-mod-pow (x / 2 ^ i) j 1

-- the low n bits
pub bit-mod : (n x i : ℕ) → i < n → bit (x % 2 ^ n) i ≡ bit x i
bit-mod n x i h = subst (λ (m : ℕ). bit (x % 2 ^ m) i ≡ bit x i) e (mod-bit x i (n - suc i))
  where
    e : (n - suc i + 1) + i ≡ n
    e = omega arith

-- a bit above the number
pub bit_above : (n x i : ℕ) → x < 2 ^ n → n ≤ i → bit x i ≡ 0
bit_above n x i h k = ap (λ (y : ℕ). y % 2) (div-eq_of_lt (lt_of_lt_of_le h (pow_mono k)))

-- the top bit of n + 1
pub bit_top : (n x : ℕ) → x < 2 ^ suc n → bit x n ≡ x / 2 ^ n
bit_top n x h = mod-eq_of_lt (shr_lt 1 n (subst (λ (m : ℕ). x < 2 ^ m) (sym (one-add n)) h))

-- a number in range with the right bits is the word of them
pub by_bits : (n x : ℕ) (f : ℕ → ℕ) → x < 2 ^ n → ((i : ℕ) → i < n → bit x i ≡ f i) → x ≡ from_bits n f
unfolding from_bits
by_bits zero x f h e = lt-one h
by_bits (suc n) x f h e =
    sym (split x n)
    ∙ ap₂ (λ (p q : ℕ). p * 2 ^ n + q)
    (sym (bit_top n x h) ∙ e n (omega arith))
    (by_bits n (x % 2 ^ n) f (mod-lt x (pow_pos n)) (λ i k. bit-mod n x i k ∙ e i (omega arith)))

pub from_bits_same : (n : ℕ) (f g : ℕ → ℕ) → ((i : ℕ) → i < n → f i ≡ g i) → from_bits n f ≡ from_bits n g
unfolding from_bits
from_bits_same zero f g e = refl
from_bits_same (suc n) f g e = ap₂ (λ (p q : ℕ). p * 2 ^ n + q) (e n (omega arith)) (from_bits_same n f g (λ i h. e i (omega arith)))

pub from_bits-lt : (n : ℕ) (f : ℕ → ℕ) → ((i : ℕ) → f i < 2) → from_bits n f < 2 ^ n
unfolding from_bits
from_bits-lt zero f h = lit< tt
from_bits-lt (suc n) f h = subst (λ (m : ℕ). f n * 2 ^ n + from_bits n f < m) (sym (pow-succ' 2 n)) (digits_lt (h n) (from_bits-lt n f h))

pub bit-shr : (x s i : ℕ) → bit (x / 2 ^ s) i ≡ bit x (s + i)
bit-shr x s i = ap (λ (y : ℕ). y % 2) (shr-shr x s i)

pub bit-shl : (x s i : ℕ) → s ≤ i → bit (x * 2 ^ s) i ≡ bit x (i - s)
bit-shl x s i h =
    let e : i ≡ s + (i - s) = omega arith in
    ap (bit (x * 2 ^ s)) e ∙ sym (bit-shr (x * 2 ^ s) s (i - s)) ∙ ap (λ (y : ℕ). bit y (i - s)) (shl-shr x s)

pub bit-shl_low : (x s i : ℕ) → i < s → bit (x * 2 ^ s) i ≡ 0
bit-shl_low x s i h = subst (λ (m : ℕ). bit (x * 2 ^ m) i ≡ 0) e (low (s - suc i))
  where
    e : suc (s - suc i) + i ≡ s
    e = omega arith

    low : (k : ℕ) → bit (x * 2 ^ (suc k + i)) i ≡ 0
    low k =
        ap (λ (y : ℕ). bit y i) (ap (λ (y : ℕ). x * y) (pow-add 2 (suc k) i) ∙ sym (mul_assoc x (2 ^ suc k) (2 ^ i)))
        ∙ ap (λ (y : ℕ). y % 2) (shl-shr (x * 2 ^ suc k) i)
        ∙ shifted_even x k

-- the operators that go bit by bit
module _ (op f : ℕ → ℕ → ℕ)
    (shr : (a b k : ℕ) → op a b / 2 ^ k ≡ op (a / 2 ^ k) (b / 2 ^ k))
    (step : (a b : ℕ) → op a b ≡ op (a / 2) (b / 2) * 2 + f (a % 2) (b % 2))
    (small : (x y : ℕ) → x < 2 → y < 2 → f x y < 2) where
  bit_op : (a b i : ℕ) → bit (op a b) i ≡ f (bit a i) (bit b i)
  bit_op a b i =
      ap (λ (y : ℕ). y % 2) (shr a b i ∙ step (a / 2 ^ i) (b / 2 ^ i))
      ∙ digits_mod (op (a / 2 ^ i / 2) (b / 2 ^ i / 2)) (small (bit a i) (bit b i) (bit-lt a i) (bit-lt b i))

pub bit-and : (a b i : ℕ) → bit (bit_and a b) i ≡ min (bit a i) (bit b i)
bit-and = bit_op bit_and min and_shr and_step (λ x y p q. omega arith)

-- what a mask leaves is below any number that the mask is below
pub masked_lt : {m : ℕ} (a mask : ℕ) → T (ltb mask m) → bit_and a mask < m
masked_lt a mask t = lt_of_le_of_lt (and_le_r a mask) (lit< t)

pub bit-or : (a b i : ℕ) → bit (bit_or a b) i ≡ max (bit a i) (bit b i)
bit-or = bit_op bit_or max or_shr or_step (λ x y p q. omega arith)

differ_sum : (x y : ℕ) → x < 2 → y < 2 → differ x y ≡ (x + y) % 2
differ_sum zero y p q = omega arith
differ_sum (suc x) zero p q = omega arith
differ_sum (suc x) (suc y) p q = differ_sum x y (omega arith) (omega arith) ∙ omega arith

pub bit-xor : (a b i : ℕ) → bit (bit_xor a b) i ≡ (bit a i + bit b i) % 2
bit-xor a b i =
    bit_op bit_xor differ xor_shr xor_step (λ x y p q. omega (arith, differ_sum x y p q)) a b i
    ∙ differ_sum (bit a i) (bit b i) (bit-lt a i) (bit-lt b i)

pub bit-suc : (x i : ℕ) → bit x (suc i) ≡ bit (x / 2) i
bit-suc x i = ap (λ (m : ℕ). bit x m) (sym (one-add i)) ∙ sym (bit-shr x 1 i)

-- x and y have every bit once between them
bit_sum : (n x y i : ℕ) → x + y ≡ 2 ^ n - 1 → i < n → bit x i + bit y i ≡ 1
bit_sum zero x y i e h = omega arith
bit_sum (suc n) x y zero e h = let p = pow-suc 2 n in let q = pow_pos n in omega arith
bit_sum (suc n) x y (suc i) e h =
    ap₂ (λ (p q : ℕ). p + q) (bit-suc x i) (bit-suc y i)
    ∙ bit_sum n (x / 2) (y / 2) i (let p = pow-suc 2 n in let q = pow_pos n in omega arith) (omega arith)

-- all bits turned
pub bit_not : (n x i : ℕ) → x < 2 ^ n → i < n → bit ((2 ^ n - 1) - x) i ≡ 1 - bit x i
bit_not n x i h k = let e = bit_sum n x ((2 ^ n - 1) - x) i (omega arith) k in omega arith
