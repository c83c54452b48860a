-- Shifts and rotations at any width, by the bits of their results.
-- Assumes nothing.
use mathlib.Core.Path.{◌≡◌, sym, ap, ap₂, ◌∙◌, subst}
use mathlib.Core.Logic.{◌⊎◌, inl, inr}
use mathlib.Core.Bool.{Bool, cond}
use Prim.Native.Nat.{ℕ, ◌+◌, ◌-◌, ◌*◌, ◌/◌, ◌%◌, ◌^◌, ◌≤◌, ◌<◌, max}
use native.Mathlib.Omega.{arith}
use native.Mathlib.Nat.{mod-lt, mod-eq_of_lt, mod-eq-sub-mod, div-eq_of_lt, div-one, mul-one, mul-mod_left, add_comm, add-zero, zero-add, sub-zero, sub_self, zero-max, max-zero, lt_of_le_of_lt, lt_of_lt_of_le}
use borrow.Author.Tests.{lt-ltb, le-ltb}
use lib.Dec.{ltb}
use lib.Bits.{bit_or, or_shifted, or_lt}
use lib.Pow.{pow_pos, pow_mono, mod-pow-add, shl-shr, shr_lt, shr_le}
use Rattle.bits.specs.Bits.{bit, from_bits}
use Rattle.bits.proofs.Bit.{lt-or-ge, bit-mod, bit_above, by_bits, from_bits_same, bit-shr, bit-shl, bit-shl_low, bit-or}

-- a test that is known, under `cond`
pub picked : {A : Type 0} (x n : ℕ) (p q r : A) → (x < n → r ≡ p) → (n ≤ x → r ≡ q) → r ≡ cond (ltb x n) p q
picked {A} x n p q r f g = by (lt-or-ge x n)
  where
    by : (x < n) ⊎ (n ≤ x) → r ≡ cond (ltb x n) p q
    by (inl k) = f k ∙ sym (ap (λ (t : Bool). cond t p q) (lt-ltb x n k))
    by (inr k) = g k ∙ sym (ap (λ (t : Bool). cond t p q) (le-ltb x n k))

-- to the left, of any number's n low bits
pub shl-bits : (n x s : ℕ) → (x * 2 ^ s) % 2 ^ n ≡ from_bits n (λ i. cond (ltb i s) 0 (bit x (i - s)))
shl-bits n x s =
    by_bits n ((x * 2 ^ s) % 2 ^ n) (λ i. cond (ltb i s) 0 (bit x (i - s))) (mod-lt (x * 2 ^ s) (pow_pos n))
    (λ i h. bit-mod n (x * 2 ^ s) i h ∙ picked i s 0 (bit x (i - s)) (bit (x * 2 ^ s) i) (bit-shl_low x s i) (bit-shl x s i))

-- to the right, of any number's n low bits
pub shr-bits : (n x s : ℕ) → x % 2 ^ n / 2 ^ s ≡ from_bits n (λ i. cond (ltb (s + i) n) (bit x (s + i)) 0)
shr-bits n x s =
    by_bits n (x % 2 ^ n / 2 ^ s) (λ i. cond (ltb (s + i) n) (bit x (s + i)) 0)
    (lt_of_le_of_lt (shr_le (x % 2 ^ n) s) (mod-lt x (pow_pos n)))
    (λ i h. bit-shr (x % 2 ^ n) s i
    ∙ picked (s + i) n (bit x (s + i)) 0 (bit (x % 2 ^ n) (s + i)) (bit-mod n x (s + i)) (bit_above n (x % 2 ^ n) (s + i) (mod-lt x (pow_pos n))))

-- the n low bits among m, with zeros above
pub low_bits : (m n x : ℕ) → n ≤ m → x % 2 ^ n ≡ from_bits m (λ i. cond (ltb i n) (bit x i) 0)
low_bits m n x hn =
    by_bits m (x % 2 ^ n) (λ i. cond (ltb i n) (bit x i) 0) (lt_of_lt_of_le (mod-lt x (pow_pos n)) (pow_mono hn))
    (λ i h. picked i n (bit x i) 0 (bit (x % 2 ^ n) i) (bit-mod n x i) (bit_above n (x % 2 ^ n) i (mod-lt x (pow_pos n))))

-- to the left by s places of n, what falls out comes in below
abbrev turned : ℕ → ℕ → ℕ → ℕ
turned n x s = (x * 2 ^ s) % 2 ^ n + x / 2 ^ (n - s)

module _ (n x s : ℕ) (hs : s ≤ n) (hx : x < 2 ^ n) where
  -- what stays is a multiple of 2 ^ s
  kept : (x * 2 ^ s) % 2 ^ n ≡ (x % 2 ^ (n - s)) * 2 ^ s
  kept =
      let whole : (n - s) + s ≡ n = omega arith in
      ap (λ (m : ℕ). (x * 2 ^ s) % 2 ^ m) (sym whole)
      ∙ mod-pow-add (x * 2 ^ s) (n - s) s
      ∙ ap₂ (λ (p q : ℕ). (p % 2 ^ (n - s)) * 2 ^ s + q) (shl-shr x s) (mul-mod_left x (2 ^ s))
      ∙ add-zero ((x % 2 ^ (n - s)) * 2 ^ s)

  around : x / 2 ^ (n - s) < 2 ^ s
  around = let back : s + (n - s) ≡ n = omega arith in shr_lt s (n - s) (subst (λ (m : ℕ). x < 2 ^ m) (sym back) hx)

  -- so the two parts share no bit
  pub turned_or : bit_or ((x * 2 ^ s) % 2 ^ n) (x / 2 ^ (n - s)) ≡ turned n x s
  turned_or =
      ap (λ (y : ℕ). bit_or y (x / 2 ^ (n - s))) kept
      ∙ or_shifted (x % 2 ^ (n - s)) s (x / 2 ^ (n - s)) around
      ∙ ap (λ (y : ℕ). y + x / 2 ^ (n - s)) (sym kept)

  pub turned_lt : turned n x s < 2 ^ n
  turned_lt =
      subst (λ (y : ℕ). y < 2 ^ n) turned_or
      (or_lt n ((x * 2 ^ s) % 2 ^ n) (x / 2 ^ (n - s)) (mod-lt (x * 2 ^ s) (pow_pos n)) (omega (arith, shr_le x (n - s))))

  turned_bit : (i : ℕ) → i < n → bit (turned n x s) i ≡ bit x ((i + (n - s)) % n)
  turned_bit i h =
      ap (λ (y : ℕ). bit y i) (sym turned_or)
      ∙ bit-or ((x * 2 ^ s) % 2 ^ n) (x / 2 ^ (n - s)) i
      ∙ ap₂ max (bit-mod n (x * 2 ^ s) i h) (bit-shr x (n - s) i)
      ∙ by (lt-or-ge i s)
    where
      by : (i < s) ⊎ (s ≤ i) → max (bit (x * 2 ^ s) i) (bit x (n - s + i)) ≡ bit x ((i + (n - s)) % n)
      by (inl k) =
          ap (λ (y : ℕ). max y (bit x (n - s + i))) (bit-shl_low x s i k)
          ∙ zero-max (bit x (n - s + i))
          ∙ ap (bit x) (add_comm (n - s) i ∙ sym (mod-eq_of_lt (omega arith)))
      by (inr k) =
          let m : i + (n - s) - n ≡ i - s = omega arith in
          ap₂ max (bit-shl x s i k) (bit_above n x (n - s + i) hx (omega arith))
          ∙ max-zero (bit x (i - s))
          ∙ ap (bit x) (sym (mod-eq-sub-mod {n = i + (n - s)} {m = n} (omega arith) ∙ mod-eq_of_lt (omega arith) ∙ m))

  pub turned_bits : turned n x s ≡ from_bits n (λ i. bit x ((i + (n - s)) % n))
  turned_bits = by_bits n (turned n x s) (λ i. bit x ((i + (n - s)) % n)) turned_lt turned_bit

  -- by no place, or by all n
  pub turned_still : s % n ≡ 0 → x ≡ turned n x s
  turned_still e = by (lt-or-ge s n)
    where
      none : s ≡ 0 → turned n x s ≡ x
      none z =
          ap (turned n x) z
          ∙ ap₂ (λ (p q : ℕ). p + q) (ap (λ (y : ℕ). y % 2 ^ n) (mul-one x) ∙ mod-eq_of_lt hx) (ap (λ (m : ℕ). x / 2 ^ m) (sub-zero n) ∙ div-eq_of_lt hx)
          ∙ add-zero x

      all : s ≡ n → turned n x s ≡ x
      all z =
          ap (turned n x) z
          ∙ ap₂ (λ (p q : ℕ). p + q) (mul-mod_left x (2 ^ n)) (ap (λ (m : ℕ). x / 2 ^ m) (sub_self n) ∙ div-one x)
          ∙ zero-add x

      by : (s < n) ⊎ (n ≤ s) → x ≡ turned n x s
      by (inl k) = sym (none (sym (mod-eq_of_lt k) ∙ e))
      by (inr k) = sym (all (omega arith))

-- to the right by s is to the left by the rest
pub turned_back_bits : (n x s : ℕ) → s ≤ n → x < 2 ^ n → turned n x (n - s) ≡ from_bits n (λ i. bit x ((i + s) % n))
turned_back_bits n x s hs hx =
    let rest : n - (n - s) ≡ s = omega arith in
    turned_bits n x (n - s) (omega arith) hx
    ∙ from_bits_same n (λ i. bit x ((i + (n - (n - s))) % n)) (λ i. bit x ((i + s) % n)) (λ i h. ap (λ (m : ℕ). bit x ((i + m) % n)) rest)
