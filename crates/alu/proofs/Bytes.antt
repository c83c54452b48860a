-- Turns of the loop over eight bytes.
-- Assumes nothing.
use Rattle.std.proofs.Common.{◌≡◌, ℕ, zero, suc, ◌+◌, ◌*◌, ◌/◌, ◌%◌, ◌^◌, ◌<◌, Bool, true, false, cond, eqb, sym, refl, ap, ◌∙◌, subst, ap₂, mod-lt, mul_comm, add-one, arith, lit<, pow-add, shl_exact}
use lib.Arith.{digits_lt}
use lib.Bits.{bit_and, bit_or, and_mask, or_shifted_r}
use Rattle.bits.specs.Bits.{bits_at}
use Rattle.alu.specs.Rust.{swapped, spread, orced}

pub byte_lt : (x k : ℕ) → bits_at x (k * 8) 8 < 2 ^ 8
byte_lt x k = mod-lt (x / 2 ^ (k * 8)) (lit< tt)

pow8 : (n : ℕ) → 2 ^ (suc n * 8) ≡ 2 ^ (n * 8) * 2 ^ 8
pow8 n = ap (λ (m : ℕ). 2 ^ m) e ∙ pow-add 2 (n * 8) 8
  where
    e : suc n * 8 ≡ n * 8 + 8
    e = omega arith

pub swapped-lt : (x n : ℕ) → swapped x n < 2 ^ (n * 8)
unfolding swapped
swapped-lt x zero = lit< tt
swapped-lt x (suc n) = subst (λ (m : ℕ). swapped x n * 2 ^ 8 + bits_at x (n * 8) 8 < m) (sym (pow8 n)) (digits_lt (swapped-lt x n) (byte_lt x n))

spread-lt : (byte : ℕ) → spread byte < 2 ^ 8
spread-lt byte = by (eqb byte 0)
  where
    by : (t : Bool) → cond t 0x00 0xff < 2 ^ 8
    by true = lit< tt
    by false = lit< tt

pub orced-none : (x : ℕ) → 0 ≡ orced x 0
unfolding orced
orced-none x = refl

pub orced-lt : (x n : ℕ) → orced x n < 2 ^ (n * 8)
unfolding orced
orced-lt x zero = lit< tt
orced-lt x (suc n) =
    subst (λ (m : ℕ). spread (bits_at x (n * 8) 8) * 2 ^ (n * 8) + orced x n < m) (mul_comm (2 ^ 8) (2 ^ (n * 8)) ∙ sym (pow8 n))
    (digits_lt (spread-lt (bits_at x (n * 8) 8)) (orced-lt x n))

pub orced_more : (x i r f : ℕ) → i < 8 → r ≡ orced x i → f ≡ spread (bit_and (x / 2 ^ (i * 8)) 0xff)
    → bit_or r ((f * 2 ^ (i * 8)) % 2 ^ 64) ≡ orced x (i + 1)
unfolding orced
orced_more x i r f h e g =
    let same : f ≡ spread (bits_at x (i * 8) 8) = g ∙ ap spread (and_mask (x / 2 ^ (i * 8)) 8) in
    let small : f < 2 ^ 8 = subst (λ (y : ℕ). y < 2 ^ 8) (sym same) (spread-lt (bits_at x (i * 8) 8)) in
    ap₂ bit_or e (shl_exact 8 (i * 8) 64 small (omega arith))
    ∙ or_shifted_r f (i * 8) (orced x i) (orced-lt x i)
    ∙ ap (λ (y : ℕ). y * 2 ^ (i * 8) + orced x i) same
    ∙ sym (ap (orced x) (add-one i))
