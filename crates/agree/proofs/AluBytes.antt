-- Bytes in reverse order and bytes spread, bit by bit.
-- Assumes nothing.
use mathlib.Core.Path.{◌≡◌, sym, ap, ◌∙◌}
use mathlib.Core.Logic.{◌⊎◌, inl, inr}
use mathlib.Core.Bool.{Bool, true, false, cond}
use Prim.Native.Nat.{ℕ, zero, suc, ◌+◌, ◌-◌, ◌*◌, ◌/◌, ◌%◌, ◌^◌, ◌≤◌, ◌<◌}
use native.Mathlib.Omega.{arith}
use lib.Dec.{eqb, lit<}
use lib.Pow.{high, low}
use Rattle.bits.specs.Bits.{bit, bits_at, from_bits}
use Rattle.bits.proofs.Bit.{lt-or-ge, bit-mod, by_bits, bit-shr, bit_not, bit_above}
use Rattle.alu.specs.Rust.{swapped, spread, orced}
use Rattle.alu.proofs.Bytes.{byte_lt, swapped-lt, orced-lt}

-- a bit of a number in two parts
low_part : (h k l i : ℕ) → l < 2 ^ k → i < k → bit (h * 2 ^ k + l) i ≡ bit l i
low_part h k l i hl hi = sym (bit-mod k (h * 2 ^ k + l) i hi) ∙ ap (λ (y : ℕ). bit y i) (low h k hl)

high_part : (h k l i : ℕ) → l < 2 ^ k → k ≤ i → bit (h * 2 ^ k + l) i ≡ bit h (i - k)
high_part h k l i hl hi =
    let e : i ≡ k + (i - k) = omega arith in
    ap (bit (h * 2 ^ k + l)) e ∙ sym (bit-shr (h * 2 ^ k + l) k (i - k)) ∙ ap (λ (y : ℕ). bit y (i - k)) (high h k hl)

swapped-bit : (x n i : ℕ) → i < n * 8 → bit (swapped x n) i ≡ bit x (8 * (n - 1 - i / 8) + i % 8)
unfolding swapped
swapped-bit x zero i h = absurd (omega arith)
swapped-bit x (suc n) i h = by (swapped-bit x n (i - 8)) (lt-or-ge i 8)
  where
    by : (i - 8 < n * 8 → bit (swapped x n) (i - 8) ≡ bit x (8 * (n - 1 - (i - 8) / 8) + (i - 8) % 8))
        → (i < 8) ⊎ (8 ≤ i) → bit (swapped x n * 2 ^ 8 + bits_at x (n * 8) 8) i ≡ bit x (8 * (suc n - 1 - i / 8) + i % 8)
    by rest (inl k) =
        low_part (swapped x n) 8 (bits_at x (n * 8) 8) i (byte_lt x n) k
        ∙ bit-mod 8 (x / 2 ^ (n * 8)) i k
        ∙ bit-shr x (n * 8) i
        ∙ ap (bit x) (omega arith)
    by rest (inr k) =
        high_part (swapped x n) 8 (bits_at x (n * 8) 8) i (byte_lt x n) k
        ∙ rest (omega arith)
        ∙ ap (bit x) (omega arith)

pub rev8_is : (a : ℕ) → swapped a 8 ≡ from_bits 64 (λ i. bit a (8 * (7 - i / 8) + i % 8))
rev8_is a = by_bits 64 (swapped a 8) (λ i. bit a (8 * (7 - i / 8) + i % 8)) (swapped-lt a 8) (λ i h. swapped-bit a 8 i h)

spread-bit : (byte j : ℕ) → j < 8 → bit (spread byte) j ≡ cond (eqb byte 0) 0 1
spread-bit byte j h = by (eqb byte 0)
  where
    none : bit 0 j ≡ 0
    none = bit_above 0 0 j (lit< tt) (omega arith)

    by : (t : Bool) → bit (cond t 0x00 0xff) j ≡ cond t 0 1
    by true = none
    by false = bit_not 8 0 j (lit< tt) h ∙ ap (λ (d : ℕ). 1 - d) none

orced-bit : (x n i : ℕ) → i < n * 8 → bit (orced x n) i ≡ cond (eqb (bits_at x (8 * (i / 8)) 8) 0) 0 1
unfolding orced
orced-bit x zero i h = absurd (omega arith)
orced-bit x (suc n) i h = by (orced-bit x n i) (lt-or-ge i (n * 8))
  where
    by : (i < n * 8 → bit (orced x n) i ≡ cond (eqb (bits_at x (8 * (i / 8)) 8) 0) 0 1)
        → (i < n * 8) ⊎ (n * 8 ≤ i) → bit (spread (bits_at x (n * 8) 8) * 2 ^ (n * 8) + orced x n) i ≡ cond (eqb (bits_at x (8 * (i / 8)) 8) 0) 0 1
    by rest (inl k) = low_part (spread (bits_at x (n * 8) 8)) (n * 8) (orced x n) i (orced-lt x n) k ∙ rest k
    by rest (inr k) =
        let e : n * 8 ≡ 8 * (i / 8) = omega arith in
        high_part (spread (bits_at x (n * 8) 8)) (n * 8) (orced x n) i (orced-lt x n) k
        ∙ spread-bit (bits_at x (n * 8) 8) (i - n * 8) (omega arith)
        ∙ ap (λ (m : ℕ). cond (eqb (bits_at x m 8) 0) 0 1) e

pub orcb_is : (a : ℕ) → orced a 8 ≡ from_bits 64 (λ i. cond (eqb (bits_at a (8 * (i / 8)) 8) 0) 0 1)
orcb_is a = by_bits 64 (orced a 8) (λ i. cond (eqb (bits_at a (8 * (i / 8)) 8) 0) 0 1) (orced-lt a 8) (λ i h. orced-bit a 8 i h)
