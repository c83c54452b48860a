-- Two's complement at any width: the signed reading by the top bit, what the machine reads back, and the shift that copies the sign.
-- Assumes nothing.
use mathlib.Core.Path.{◌≡◌, refl, sym, ap, ◌∙◌}
use mathlib.Core.Logic.{◌⊎◌, inl, inr}
use mathlib.Core.Bool.{Bool, true, false, cond}
use Prim.Native.Nat.{ℕ, zero, suc, ◌+◌, ◌-◌, ◌/◌, ◌%◌, ◌^◌, ◌≤◌, ◌<◌, min}
use native.Mathlib.Omega.{arith}
use native.Mathlib.Nat.{mod-eq_of_lt, add-mod_right, mod-eq-sub-mod, pow-suc, min-eq_left, min-eq_right, lt_of_le_of_lt, div-eq_of_lt-le}
use borrow.Author.Tests.{lt-ltb, le-ltb}
use lib.Dec.{ltb}
use lib.IntN.{ℤ, pos, negsuc, ◌-ℤ◌}
use lib.Signed.{mag, shr_z, mag_shr}
use lib.Pow.{shr_le, ones_sub-lt}
use mir.Syntax.{w64}
use mir.Val.{SFits, to_z, of_z, sel}
use mir.Facts.{to_z-of_z}
use Rattle.bits.specs.Bits.{bit, from_bits, signed}
use Rattle.bits.proofs.Bit.{lt-or-ge, bit-lt, bit_above, bit_top, by_bits, bit-shr, bit_not}

pub half : (n : ℕ) → 2 ^ suc n / 2 ≡ 2 ^ n
half n = let p = pow-suc 2 n in omega arith

pub signed_low : (n v : ℕ) → v < 2 ^ n / 2 → signed n v ≡ pos v
signed_low n v h = ap (λ (t : Bool). cond t (pos v) (negsuc (2 ^ n - suc v))) (lt-ltb v (2 ^ n / 2) h)

pub signed_high : (n v : ℕ) → 2 ^ n / 2 ≤ v → signed n v ≡ negsuc (2 ^ n - suc v)
signed_high n v h = ap (λ (t : Bool). cond t (pos v) (negsuc (2 ^ n - suc v))) (le-ltb v (2 ^ n / 2) h)

pub signed_mag : (n v : ℕ) → v < 2 ^ n → mag (signed n v) < 2 ^ n
signed_mag n v h = by (ltb v (2 ^ n / 2))
  where
    by : (t : Bool) → mag (cond t (pos v) (negsuc (2 ^ n - suc v))) < 2 ^ n
    by true = h
    by false = omega arith

-- a difference that is not below zero
pub not-below-zero : (a b : ℕ) → b ≤ a → pos a -ℤ pos b ≡ pos (a - b)
not-below-zero a zero h = ap pos (omega arith)
not-below-zero a (suc k) h = rw (le-ltb a (suc k) h)

-- the machine's reading of 64 bits
pub to_z-signed : (x : ℕ) → to_z w64 x ≡ signed 64 x
to_z-signed x = by (ltb x (2 ^ 63))
  where
    by : (t : Bool) → sel t (pos x) (negsuc (2 ^ 64 - suc x)) ≡ cond t (pos x) (negsuc (2 ^ 64 - suc x))
    by true = refl
    by false = refl

-- a signed number that the machine shifts, read back
pub shr_back : (z y : ℤ) (m : ℕ) → SFits w64 z → z ≡ y → to_z w64 (of_z w64 (shr_z (to_z w64 (of_z w64 z)) m)) ≡ shr_z y m
shr_back z y m ok e =
    ap (λ (x : ℤ). to_z w64 (of_z w64 (shr_z x m))) (to_z-of_z {w = w64} ok)
    ∙ to_z-of_z {w = w64} (record { sfits = lt_of_le_of_lt (mag_shr z m) ok.sfits })
    ∙ ap (λ (x : ℤ). shr_z x m) e

-- a difference that wraps: what b added to gives a
pub wrapped : (n r a b : ℕ) → r < 2 ^ n → b < 2 ^ n → (r + b) % 2 ^ n ≡ a → r ≡ (a + (2 ^ n - b)) % 2 ^ n
wrapped n r a b hr hb e = by (lt-or-ge (r + b) (2 ^ n))
  where
    by : (r + b < 2 ^ n) ⊎ (2 ^ n ≤ r + b) → r ≡ (a + (2 ^ n - b)) % 2 ^ n
    by (inl k) =
        let f : r + b ≡ a = sym (mod-eq_of_lt k) ∙ e in
        let g : r + 2 ^ n ≡ a + (2 ^ n - b) = omega arith in
        sym (mod-eq_of_lt hr) ∙ sym (add-mod_right r (2 ^ n)) ∙ ap (λ (y : ℕ). y % 2 ^ n) g
    by (inr k) =
        let f : r + b - 2 ^ n ≡ a = sym (mod-eq-sub-mod {n = r + b} {m = 2 ^ n} k ∙ mod-eq_of_lt (omega arith)) ∙ e in
        let g : r ≡ a + (2 ^ n - b) = omega arith in
        sym (mod-eq_of_lt hr) ∙ ap (λ (y : ℕ). y % 2 ^ n) g

-- n + 1 bits, the sign copied from above
module _ (n x : ℕ) (hx : x < 2 ^ suc n) where
  -- all bits turned
  abbrev y : ℕ
  y = (2 ^ suc n - 1) - x

  -- an index past the top bit reads the top bit
  clamp_low : (i : ℕ) → x < 2 ^ n → bit x i ≡ bit x (min i n)
  clamp_low i h = by (lt-or-ge i n)
    where
      by : (i < n) ⊎ (n ≤ i) → bit x i ≡ bit x (min i n)
      by (inl k) = ap (bit x) (sym (min-eq_left (omega arith)))
      by (inr k) = bit_above n x i h k ∙ sym (bit_above n x n h (omega arith)) ∙ ap (bit x) (sym (min-eq_right k))

  clamp_high : (i : ℕ) → 2 ^ n ≤ x → 1 - bit y i ≡ bit x (min i n)
  clamp_high i l = by (lt-or-ge n i)
    where
      top : bit x n ≡ 1
      top = bit_top n x hx ∙ div-eq_of_lt-le (2 ^ n) (omega arith) (omega (arith, pow-suc 2 n))

      by : (n < i) ⊎ (i ≤ n) → 1 - bit y i ≡ bit x (min i n)
      by (inl k) =
          ap (λ (d : ℕ). 1 - d) (bit_above (suc n) y i (ones_sub-lt (suc n) x) k)
          ∙ sym top ∙ ap (bit x) (sym (min-eq_right (omega arith)))
      by (inr k) =
          let e = bit_not (suc n) x i hx (omega arith) in
          let b = bit-lt x i in
          omega arith ∙ ap (bit x) (sym (min-eq_left k))

  pub signed-shr : (s : ℕ) → shr_z (signed (suc n) x) (2 ^ s) ≡ signed (suc n) (from_bits (suc n) (λ i. bit x (min (s + i) n)))
  signed-shr s = by (lt-or-ge x (2 ^ n))
    where
      low : x < 2 ^ n → x / 2 ^ s ≡ from_bits (suc n) (λ i. bit x (min (s + i) n))
      low k =
          by_bits (suc n) (x / 2 ^ s) (λ i. bit x (min (s + i) n)) (lt_of_le_of_lt (shr_le x s) hx)
          (λ i _. bit-shr x s i ∙ clamp_low (s + i) k)

      high : 2 ^ n ≤ x → (2 ^ suc n - 1) - y / 2 ^ s ≡ from_bits (suc n) (λ i. bit x (min (s + i) n))
      high k =
          by_bits (suc n) ((2 ^ suc n - 1) - y / 2 ^ s) (λ i. bit x (min (s + i) n)) (ones_sub-lt (suc n) (y / 2 ^ s))
          (λ i j.
          bit_not (suc n) (y / 2 ^ s) i (lt_of_le_of_lt (shr_le y s) (ones_sub-lt (suc n) x)) j
          ∙ ap (λ (d : ℕ). 1 - d) (bit-shr y s i)
          ∙ clamp_high (s + i) k)

      by : (x < 2 ^ n) ⊎ (2 ^ n ≤ x) → shr_z (signed (suc n) x) (2 ^ s) ≡ signed (suc n) (from_bits (suc n) (λ i. bit x (min (s + i) n)))
      by (inl k) =
          ap (λ (z : ℤ). shr_z z (2 ^ s)) (signed_low (suc n) x (omega (arith, half n)))
          ∙ sym (signed_low (suc n) (x / 2 ^ s) (omega (arith, half n, shr_le x s)))
          ∙ ap (signed (suc n)) (low k)
      by (inr k) =
          let q = shr_le y s in
          let e : 2 ^ suc n - suc x ≡ y = omega arith in
          let f : y / 2 ^ s ≡ 2 ^ suc n - suc ((2 ^ suc n - 1) - y / 2 ^ s) = omega arith in
          ap (λ (z : ℤ). shr_z z (2 ^ s)) (signed_high (suc n) x (omega (arith, half n)) ∙ ap negsuc e)
          ∙ ap negsuc f
          ∙ sym (signed_high (suc n) ((2 ^ suc n - 1) - y / 2 ^ s) (omega (arith, half n, pow-suc 2 n)))
          ∙ ap (signed (suc n)) (high k)
