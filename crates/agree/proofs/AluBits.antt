-- Logic, shifts and rotations, bit by bit.
-- Assumes nothing.
use mathlib.Core.Path.{◌≡◌, sym, ap, ◌∙◌}
use mathlib.Core.Bool.{cond}
use Prim.Native.Nat.{ℕ, ◌+◌, ◌-◌, ◌*◌, ◌/◌, ◌%◌, ◌^◌, ◌≤◌, ◌<◌, min, max}
use native.Mathlib.Omega.{arith}
use native.Mathlib.Nat.{mod-lt, mod-eq_of_lt, lt_of_le_of_lt}
use lib.Dec.{ltb}
use lib.Bits.{bit_and, bit_or, bit_xor, and_mask, and_lt, or_lt, xor_lt}
use lib.Pow.{pow_pos, shr_le, ones_sub-lt}
use Rattle.bits.specs.Bits.{bit, from_bits}
use Rattle.bits.proofs.Bit.{bit-lt, bit-mod, by_bits, from_bits_same, bit-and, bit-or, bit-xor, bit_not}
use Rattle.bits.proofs.Shift.{shl-bits, shr-bits, turned_bits, turned_back_bits, turned_lt}
use Rattle.alu.specs.Rust.{as_u32, widen, not64, shl, rotl}
use Rattle.manual.specs.Alu.{extended, left, right, turned_left, turned_right}
use Rattle.agree.proofs.AluSigns.{word_kind}

-- an operator that goes bit by bit, on b and on b with all bits turned
module _ (op f : ℕ → ℕ → ℕ)
    (small : (k a b : ℕ) → a < 2 ^ k → b < 2 ^ k → op a b < 2 ^ k)
    (each : (a b i : ℕ) → bit (op a b) i ≡ f (bit a i) (bit b i))
    (a b : ℕ) (ha : a < 2 ^ 64) where
  plain : b < 2 ^ 64 → op a b ≡ from_bits 64 (λ i. f (bit a i) (bit b i))
  plain hb = by_bits 64 (op a b) (λ i. f (bit a i) (bit b i)) (small 64 a b ha hb) (λ i h. each a b i)

  negated : b < 2 ^ 64 → op a (not64 b) ≡ from_bits 64 (λ i. f (bit a i) (1 - bit b i))
  negated hb =
      by_bits 64 (op a (not64 b)) (λ i. f (bit a i) (1 - bit b i)) (small 64 a (not64 b) ha (ones_sub-lt 64 b))
      (λ i h. each a (not64 b) i ∙ ap (f (bit a i)) (bit_not 64 b i hb h))

pub and_is : (a b : ℕ) → a < 2 ^ 64 → b < 2 ^ 64 → bit_and a b ≡ from_bits 64 (λ i. min (bit a i) (bit b i))
and_is = plain bit_and min and_lt bit-and

pub or_is : (a b : ℕ) → a < 2 ^ 64 → b < 2 ^ 64 → bit_or a b ≡ from_bits 64 (λ i. max (bit a i) (bit b i))
or_is = plain bit_or max or_lt bit-or

pub xor_is : (a b : ℕ) → a < 2 ^ 64 → b < 2 ^ 64 → bit_xor a b ≡ from_bits 64 (λ i. (bit a i + bit b i) % 2)
xor_is = plain bit_xor (λ x y. (x + y) % 2) xor_lt bit-xor

pub andn_is : (a b : ℕ) → a < 2 ^ 64 → b < 2 ^ 64 → bit_and a (not64 b) ≡ from_bits 64 (λ i. min (bit a i) (1 - bit b i))
andn_is = negated bit_and min and_lt bit-and

pub orn_is : (a b : ℕ) → a < 2 ^ 64 → b < 2 ^ 64 → bit_or a (not64 b) ≡ from_bits 64 (λ i. max (bit a i) (1 - bit b i))
orn_is = negated bit_or max or_lt bit-or

flip : (x y : ℕ) → x < 2 → y < 2 → (x + (1 - y)) % 2 ≡ 1 - (x + y) % 2
flip x y hx hy = omega arith

pub xnor_is : (a b : ℕ) → a < 2 ^ 64 → b < 2 ^ 64 → bit_xor a (not64 b) ≡ from_bits 64 (λ i. 1 - (bit a i + bit b i) % 2)
xnor_is a b ha hb =
    negated bit_xor (λ x y. (x + y) % 2) xor_lt bit-xor a b ha hb
    ∙ from_bits_same 64 (λ i. (bit a i + (1 - bit b i)) % 2) (λ i. 1 - (bit a i + bit b i) % 2)
    (λ i h. flip (bit a i) (bit b i) (bit-lt a i) (bit-lt b i))

pub sll_is : (a b : ℕ) → shl a (bit_and b 0x3f) ≡ left 64 a (b % 2 ^ 6)
sll_is a b = ap (shl a) (and_mask b 6) ∙ shl-bits 64 a (b % 2 ^ 6)

pub srl_is : (a b : ℕ) → a < 2 ^ 64 → a / 2 ^ bit_and b 0x3f ≡ right 64 a (b % 2 ^ 6)
srl_is a b ha =
    ap (λ (s : ℕ). a / 2 ^ s) (and_mask b 6) ∙ ap (λ (x : ℕ). x / 2 ^ (b % 2 ^ 6)) (sym (mod-eq_of_lt ha)) ∙ shr-bits 64 a (b % 2 ^ 6)

pub rol_is : (a b : ℕ) → a < 2 ^ 64 → rotl 64 a (bit_and b 0x3f) ≡ turned_left 64 a (b % 2 ^ 6)
rol_is a b ha = ap (rotl 64 a) (and_mask b 6) ∙ turned_bits 64 a (b % 2 ^ 6) (omega arith) ha

pub ror_is : (a b : ℕ) → a < 2 ^ 64 → rotl 64 a (64 - bit_and b 0x3f) ≡ turned_right 64 a (b % 2 ^ 6)
ror_is a b ha = ap (λ (s : ℕ). rotl 64 a (64 - s)) (and_mask b 6) ∙ turned_back_bits 64 a (b % 2 ^ 6) (omega arith) ha

-- a word kind whose result has 32 bits in both readings
whole_word : (r x : ℕ) → r < 2 ^ 32 → r ≡ x → widen 32 r ≡ extended 32 x
whole_word r x h e = word_kind r x (sym (mod-eq_of_lt h) ∙ ap (λ (y : ℕ). y % 2 ^ 32) e)

pub sllw_is : (a b : ℕ) → widen 32 ((as_u32 a * 2 ^ bit_and b 0x1f) % 2 ^ 32) ≡ extended 32 (left 32 a (b % 2 ^ 5))
sllw_is a b =
    let s = b % 2 ^ 5 in
    ap (λ (s : ℕ). widen 32 ((as_u32 a * 2 ^ s) % 2 ^ 32)) (and_mask b 5)
    ∙ whole_word ((as_u32 a * 2 ^ s) % 2 ^ 32) (left 32 a s) (mod-lt (as_u32 a * 2 ^ s) (pow_pos 32))
    (shl-bits 32 (as_u32 a) s
    ∙ from_bits_same 32 (λ i. cond (ltb i s) 0 (bit (as_u32 a) (i - s))) (λ i. cond (ltb i s) 0 (bit a (i - s)))
    (λ i h. ap (cond (ltb i s) 0) (bit-mod 32 a (i - s) (omega arith))))

pub srlw_is : (a b : ℕ) → widen 32 (as_u32 a / 2 ^ bit_and b 0x1f) ≡ extended 32 (right 32 a (b % 2 ^ 5))
srlw_is a b =
    let s = b % 2 ^ 5 in
    ap (λ (s : ℕ). widen 32 (as_u32 a / 2 ^ s)) (and_mask b 5)
    ∙ whole_word (as_u32 a / 2 ^ s) (right 32 a s) (lt_of_le_of_lt (shr_le (as_u32 a) s) (mod-lt a (pow_pos 32))) (shr-bits 32 a s)

-- a rotation reads the low word alone
low_word : (a : ℕ) (g : ℕ → ℕ) → from_bits 32 (λ i. bit (as_u32 a) (g i % 32)) ≡ from_bits 32 (λ i. bit a (g i % 32))
low_word a g = from_bits_same 32 (λ i. bit (as_u32 a) (g i % 32)) (λ i. bit a (g i % 32)) (λ i h. bit-mod 32 a (g i % 32) (omega arith))

pub rolw_is : (a b : ℕ) → widen 32 (rotl 32 (as_u32 a) (bit_and b 0x1f)) ≡ extended 32 (turned_left 32 a (b % 2 ^ 5))
rolw_is a b =
    let s = b % 2 ^ 5 in
    let hs : b % 2 ^ 5 ≤ 32 = omega arith in
    let ha : as_u32 a < 2 ^ 32 = mod-lt a (pow_pos 32) in
    ap (λ (s : ℕ). widen 32 (rotl 32 (as_u32 a) s)) (and_mask b 5)
    ∙ whole_word (rotl 32 (as_u32 a) s) (turned_left 32 a s) (turned_lt 32 (as_u32 a) s hs ha)
    (turned_bits 32 (as_u32 a) s hs ha ∙ low_word a (λ i. i + (32 - s)))

pub rorw_is : (a b : ℕ) → widen 32 (rotl 32 (as_u32 a) (32 - bit_and b 0x1f)) ≡ extended 32 (turned_right 32 a (b % 2 ^ 5))
rorw_is a b =
    let s = b % 2 ^ 5 in
    let hs : b % 2 ^ 5 ≤ 32 = omega arith in
    let ha : as_u32 a < 2 ^ 32 = mod-lt a (pow_pos 32) in
    ap (λ (s : ℕ). widen 32 (rotl 32 (as_u32 a) (32 - s))) (and_mask b 5)
    ∙ whole_word (rotl 32 (as_u32 a) (32 - s)) (turned_right 32 a s) (turned_lt 32 (as_u32 a) (32 - s) (omega arith) ha)
    (turned_back_bits 32 (as_u32 a) s hs ha ∙ low_word a (λ i. i + s))
