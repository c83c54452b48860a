-- Signed values, sign extension and the word kinds: the manual's weights and the Rust's casts read the same numbers.
-- Assumes nothing.
use mathlib.Core.Path.{◌≡◌, sym, ap, ap₂, ◌∙◌}
use mathlib.Core.Logic.{◌⊎◌, inl, inr}
use Prim.Native.Nat.{ℕ, suc, ◌+◌, ◌-◌, ◌*◌, ◌/◌, ◌%◌, ◌^◌, ◌≤◌, ◌<◌, min}
use native.Mathlib.Omega.{arith}
use native.Mathlib.Nat.{mod-lt, mod-eq_of_lt, mod-add-mod, add-mod, pow-suc, mul-add-mod_self_right, zero-mul, one-mul, zero-add, lt_of_lt_of_le}
use native.Mathlib.Numerals.{one-add}
use lib.Dec.{lit<}
use lib.IntN.{ℤ, pos, negsuc, ◌-ℤ◌}
use lib.Signed.{lt_z, shr_z, mag}
use lib.Pow.{pow_pos, pow_mono, mod-pow-add, mod-mod-pow, split, shr_lt}
use Rattle.bits.specs.Bits.{bit, signed}
use Rattle.bits.proofs.Bit.{lt-or-ge, bit-lt, bit-mod, from_bits-lt, from_bits_same}
use Rattle.bits.proofs.Sign.{below-zero}
use Rattle.bits.proofs.Signed.{half, signed_low, signed_high, signed_mag, signed-shr, not-below-zero}
use Rattle.op.specs.Record.{bits64}
use Rattle.alu.specs.Rust.{as_u32, widen, minus, less}
use Rattle.manual.specs.Alu.{low64, value, extended, right_signed}

-- n + 1 bits by their weights
weights : (n x : ℕ) → pos (x % 2 ^ n) -ℤ pos (bit x n * 2 ^ n) ≡ signed (suc n) (x % 2 ^ suc n)
weights n x = by (lt-or-ge (bit x n) 1)
  where
    whole : x % 2 ^ suc n ≡ bit x n * 2 ^ n + x % 2 ^ n
    whole = ap (λ (m : ℕ). x % 2 ^ m) (sym (one-add n)) ∙ mod-pow-add x 1 n

    by : (bit x n < 1) ⊎ (1 ≤ bit x n) → pos (x % 2 ^ n) -ℤ pos (bit x n * 2 ^ n) ≡ signed (suc n) (x % 2 ^ suc n)
    by (inl k) =
        let none : bit x n ≡ 0 = omega arith in
        let q : bit x n * 2 ^ n ≡ 0 = ap (λ (d : ℕ). d * 2 ^ n) none ∙ zero-mul (2 ^ n) in
        let same : x % 2 ^ suc n ≡ x % 2 ^ n = whole ∙ ap (λ (d : ℕ). d + x % 2 ^ n) q ∙ zero-add (x % 2 ^ n) in
        not-below-zero (x % 2 ^ n) (bit x n * 2 ^ n) (omega arith)
        ∙ ap pos (omega arith)
        ∙ sym (signed_low (suc n) (x % 2 ^ suc n) (omega (arith, half n, mod-lt x (pow_pos n))))
    by (inr k) =
        let one : bit x n ≡ 1 = let b = bit-lt x n in omega arith in
        let q : bit x n * 2 ^ n ≡ 2 ^ n = ap (λ (d : ℕ). d * 2 ^ n) one ∙ one-mul (2 ^ n) in
        let same : x % 2 ^ suc n ≡ 2 ^ n + x % 2 ^ n = whole ∙ ap (λ (d : ℕ). d + x % 2 ^ n) q in
        ap (λ (d : ℕ). pos (x % 2 ^ n) -ℤ pos d) q
        ∙ below-zero (x % 2 ^ n) (2 ^ n) (mod-lt x (pow_pos n))
        ∙ ap negsuc (omega (arith, pow-suc 2 n))
        ∙ sym (signed_high (suc n) (x % 2 ^ suc n) (omega (arith, half n)))

low_is : (z : ℤ) → mag z < 2 ^ 64 → low64 z ≡ bits64 z
low_is (pos v) h = mod-eq_of_lt h
low_is (negsuc v) h = omega arith

-- sign extension from n + 1 bits
pub extended-is : (n x : ℕ) → n < 64 → bits64 (signed (suc n) (x % 2 ^ suc n)) ≡ low64 (pos (x % 2 ^ n) -ℤ pos (bit x n * 2 ^ n))
extended-is n x h =
    let small : x % 2 ^ suc n < 2 ^ suc n = mod-lt x (pow_pos (suc n)) in
    sym (ap low64 (weights n x) ∙ low_is (signed (suc n) (x % 2 ^ suc n)) (lt_of_lt_of_le (signed_mag (suc n) (x % 2 ^ suc n) small) (pow_mono h)))

-- a word kind's result, the Rust's of 32 bits and the manual's of which the low 32 count
pub word_kind : (r x : ℕ) → r ≡ x % 2 ^ 32 → widen 32 r ≡ extended 32 x
word_kind r x e = ap (widen 32) e ∙ extended-is 31 x (lit< tt)

-- the signed reading of 64 bits
pub value-is : (x : ℕ) → x < 2 ^ 64 → signed 64 x ≡ value 64 x
value-is x h = ap (signed 64) (sym (mod-eq_of_lt h)) ∙ sym (weights 63 x)

bits_back : (x : ℕ) → x < 2 ^ 64 → bits64 (signed 64 x) ≡ x
bits_back x h = by (lt-or-ge x (2 ^ 63))
  where
    by : (x < 2 ^ 63) ⊎ (2 ^ 63 ≤ x) → bits64 (signed 64 x) ≡ x
    by (inl k) = ap bits64 (signed_low 64 x k)
    by (inr k) = ap bits64 (signed_high 64 x k) ∙ omega arith

pub signed_same : (a b : ℕ) → a < 2 ^ 64 → b < 2 ^ 64 → signed 64 a ≡ signed 64 b → a ≡ b
signed_same a b ha hb e = sym (bits_back a ha) ∙ ap bits64 e ∙ bits_back b hb

pub sra_is : (a s : ℕ) → a < 2 ^ 64 → bits64 (shr_z (signed 64 a) (2 ^ s)) ≡ right_signed 64 a s
sra_is a s h = ap bits64 (signed-shr 63 a h s) ∙ bits_back (right_signed 64 a s) (from_bits-lt 64 (λ i. bit a (min (s + i) 63)) (λ i. bit-lt a (min (s + i) 63)))

pub sraw_is : (a s : ℕ) → bits64 (shr_z (signed 32 (as_u32 a)) (2 ^ s)) ≡ extended 32 (right_signed 32 a s)
sraw_is a s =
    ap bits64 (signed-shr 31 (as_u32 a) (mod-lt a (pow_pos 32)) s)
    ∙ word_kind (right_signed 32 (as_u32 a) s) (right_signed 32 a s)
    (from_bits_same 32 (λ i. bit (as_u32 a) (min (s + i) 31)) (λ i. bit a (min (s + i) 31)) (λ i h. bit-mod 32 a (min (s + i) 31) (omega arith))
    ∙ sym (mod-eq_of_lt (from_bits-lt 32 (λ i. bit a (min (s + i) 31)) (λ i. bit-lt a (min (s + i) 31)))))

pub addw_is : (a b : ℕ) → (as_u32 a + as_u32 b) % 2 ^ 32 ≡ (a + b) % 2 ^ 64 % 2 ^ 32
addw_is a b = sym (add-mod a b (2 ^ 32)) ∙ sym (mod-mod-pow (a + b) 32 32)

-- 2 ^ 64 less b, by its two words
two_words : (a q r : ℕ) → q < 2 ^ 32 → r < 2 ^ 32 → a + (2 ^ 64 - (q * 2 ^ 32 + r)) ≡ (2 ^ 32 - 1 - q) * 2 ^ 32 + (a + (2 ^ 32 - r))
two_words a q r hq hr = omega arith

minus_low : (a b : ℕ) → b < 2 ^ 64 → minus 32 (as_u32 a) (as_u32 b) ≡ minus 64 a b % 2 ^ 32
minus_low a b hb =
    mod-add-mod a (2 ^ 32) (2 ^ 32 - as_u32 b)
    ∙ sym (mul-add-mod_self_right (2 ^ 32 - 1 - b / 2 ^ 32) (2 ^ 32) (a + (2 ^ 32 - as_u32 b)))
    ∙ ap (λ (x : ℕ). x % 2 ^ 32) (sym (two_words a (b / 2 ^ 32) (as_u32 b) (shr_lt 32 32 hb) (mod-lt b (pow_pos 32))) ∙ ap (λ (x : ℕ). a + (2 ^ 64 - x)) (split b 32))
    ∙ sym (mod-mod-pow (a + (2 ^ 64 - b)) 32 32)

pub sub_is : (a b : ℕ) → a < 2 ^ 64 → b < 2 ^ 64 → minus 64 a b ≡ low64 (pos a -ℤ pos b)
sub_is a b ha hb = by (lt-or-ge a b)
  where
    by : (a < b) ⊎ (b ≤ a) → minus 64 a b ≡ low64 (pos a -ℤ pos b)
    by (inl k) = omega arith ∙ sym (ap low64 (below-zero a b k))
    by (inr k) = omega arith ∙ sym (ap low64 (not-below-zero a b k))

pub subw_is : (a b : ℕ) → a < 2 ^ 64 → b < 2 ^ 64 → minus 32 (as_u32 a) (as_u32 b) ≡ low64 (pos a -ℤ pos b) % 2 ^ 32
subw_is a b ha hb = minus_low a b hb ∙ ap (λ (x : ℕ). x % 2 ^ 32) (sub_is a b ha hb)

pub less-is : (a b : ℕ) → a < 2 ^ 64 → b < 2 ^ 64 → less a b ≡ lt_z (value 64 a) (value 64 b)
less-is a b ha hb = ap₂ lt_z (value-is a ha) (value-is b hb)
