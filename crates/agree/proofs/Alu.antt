-- The Rust's ALU and the manual's give one answer, at every kind and every pair of 64-bit operands: there is no difference to list.
-- Assumes nothing.
use mathlib.Core.Path.{◌≡◌, refl, sym, ap, ◌∙◌}
use mathlib.Core.Logic.{◌⊎◌, inl, inr}
use mathlib.Core.Bool.{Bool, cond}
use Prim.Native.Nat.{ℕ, ◌+◌, ◌%◌, ◌^◌, ◌≤◌, ◌<◌, min, max}
use native.Mathlib.Omega.{arith}
use native.Mathlib.Nat.{add_comm, min-eq_left, min-eq_right, max-eq_left, max-eq_right, le_antisymm}
use borrow.Author.Tests.{lt-ltb, le-ltb}
use lib.Dec.{ltb, lit<, lit≤}
use lib.Bits.{bit_and, and_mask}
use lib.IntN.{ℤ, pos, negsuc, ◌-ℤ◌}
use lib.Signed.{lt_z, shr_z}
use Rattle.bits.specs.Bits.{signed}
use Rattle.bits.proofs.Bit.{lt-or-ge}
use Rattle.bits.proofs.Shift.{picked, shl-bits, low_bits}
use Rattle.op.specs.Record.{bits64}
use Rattle.op.specs.declared.AluKind.{AluKind}
use Rattle.op.specs.declared.AluKind.TheVariants.{Add, Sub, Sll, Slt, Sltu, Xor, Srl, Sra, Or, And, Addw, Subw, Sllw, Srlw, Sraw, Mul, Mulh, Mulhsu, Mulhu, Div, Divu, Rem, Remu, Mulw, Divw, Divuw, Remw, Remuw, Andn, Orn, Xnor, Rol, Ror, Rolw, Rorw, Min, Max, Minu, Maxu, Clz, Ctz, Cpop, Clzw, Ctzw, Cpopw, SextB, SextH, ZextH, Rev8, OrcB, Sh1add, Sh2add, Sh3add, AddUw, Sh1addUw, Sh2addUw, Sh3addUw, SlliUw}
use Rattle.alu.specs.Rust.{as_u32, shl, minus, less, rust_alu}
use Rattle.manual.specs.Alu.{low64, value, zeroed, left, manual_alu}
use Rattle.agree.specs.Alu.{answer}
use Rattle.agree.proofs.AluBits.{and_is, or_is, xor_is, andn_is, orn_is, xnor_is, sll_is, srl_is, rol_is, ror_is, sllw_is, srlw_is, rolw_is, rorw_is}
use Rattle.agree.proofs.AluBytes.{rev8_is, orcb_is}
use Rattle.agree.proofs.AluCounts.{clz_is, ctz_is, cpop_is, clzw_is, ctzw_is, cpopw_is}
use Rattle.agree.proofs.AluSigns.{extended-is, word_kind, signed_same, sra_is, sraw_is, addw_is, sub_is, subw_is, less-is}
use Rattle.std.specs.Prelude.{Ok}

-- the larger of two, whichever side is asked first
larger : (a b u v : ℕ) → (u ≡ v → a ≡ b) → cond (ltb v u) a b ≡ cond (ltb u v) b a
larger a b u v e = picked u v b a (cond (ltb v u) a b) (λ k. ap (λ (t : Bool). cond t a b) (le-ltb v u (omega arith))) (λ k. last k (lt-or-ge v u))
  where
    last : v ≤ u → (v < u) ⊎ (u ≤ v) → cond (ltb v u) a b ≡ a
    last k (inl l) = ap (λ (t : Bool). cond t a b) (lt-ltb v u l)
    last k (inr l) = ap (λ (t : Bool). cond t a b) (le-ltb v u l) ∙ sym (e (le_antisymm l k))

larger_z : (a b : ℕ) (u v : ℤ) → (u ≡ v → a ≡ b) → cond (lt_z v u) a b ≡ cond (lt_z u v) b a
larger_z a b (pos u) (pos v) e = larger a b u v (λ h. e (ap pos h))
larger_z a b (pos u) (negsuc v) e = refl
larger_z a b (negsuc u) (pos v) e = refl
larger_z a b (negsuc u) (negsuc v) e = larger a b v u (λ h. e (ap negsuc (sym h)))

max-is : (a b : ℕ) → a < 2 ^ 64 → b < 2 ^ 64 → cond (less b a) a b ≡ cond (lt_z (value 64 a) (value 64 b)) b a
max-is a b ha hb = larger_z a b (signed 64 a) (signed 64 b) (signed_same a b ha hb) ∙ ap (λ (t : Bool). cond t b a) (less-is a b ha hb)

-- sums, which the manual names the other way round
sum_is : (x y b : ℕ) → x ≡ y → (x + b) % 2 ^ 64 ≡ (b + y) % 2 ^ 64
sum_is x y b e = ap (λ (s : ℕ). s % 2 ^ 64) (add_comm x b ∙ ap (λ (z : ℕ). b + z) e)

shift_word : (a s : ℕ) → shl (as_u32 a) s ≡ left 64 (zeroed 32 a) s
shift_word a s = ap (λ (x : ℕ). shl x s) (low_bits 64 32 a (lit≤ tt)) ∙ shl-bits 64 (zeroed 32 a) s

pub agree : (kind : AluKind) (a b : ℕ) → a < 2 ^ 64 → b < 2 ^ 64 → rust_alu kind a b ≡ answer (manual_alu kind a b)
agree Add a b ha hb = refl
agree Sub a b ha hb = ap Ok (sub_is a b ha hb)
agree Sll a b ha hb = ap Ok (sll_is a b)
agree Slt a b ha hb = ap (λ (t : Bool). Ok (cond t 1 0)) (less-is a b ha hb)
agree Sltu a b ha hb = refl
agree Xor a b ha hb = ap Ok (xor_is a b ha hb)
agree Srl a b ha hb = ap Ok (srl_is a b ha)
agree Sra a b ha hb = ap Ok (ap (λ (s : ℕ). bits64 (shr_z (signed 64 a) (2 ^ s))) (and_mask b 6) ∙ sra_is a (b % 2 ^ 6) ha)
agree Or a b ha hb = ap Ok (or_is a b ha hb)
agree And a b ha hb = ap Ok (and_is a b ha hb)
agree Addw a b ha hb = ap Ok (word_kind ((as_u32 a + as_u32 b) % 2 ^ 32) ((a + b) % 2 ^ 64) (addw_is a b))
agree Subw a b ha hb = ap Ok (word_kind (minus 32 (as_u32 a) (as_u32 b)) (low64 (pos a -ℤ pos b)) (subw_is a b ha hb))
agree Sllw a b ha hb = ap Ok (sllw_is a b)
agree Srlw a b ha hb = ap Ok (srlw_is a b)
agree Sraw a b ha hb = ap Ok (ap (λ (s : ℕ). bits64 (shr_z (signed 32 (as_u32 a)) (2 ^ s))) (and_mask b 5) ∙ sraw_is a (b % 2 ^ 5))
agree Mul a b ha hb = refl
agree Mulh a b ha hb = refl
agree Mulhsu a b ha hb = refl
agree Mulhu a b ha hb = refl
agree Div a b ha hb = refl
agree Divu a b ha hb = refl
agree Rem a b ha hb = refl
agree Remu a b ha hb = refl
agree Mulw a b ha hb = refl
agree Divw a b ha hb = refl
agree Divuw a b ha hb = refl
agree Remw a b ha hb = refl
agree Remuw a b ha hb = refl
agree Andn a b ha hb = ap Ok (andn_is a b ha hb)
agree Orn a b ha hb = ap Ok (orn_is a b ha hb)
agree Xnor a b ha hb = ap Ok (xnor_is a b ha hb)
agree Rol a b ha hb = ap Ok (rol_is a b ha)
agree Ror a b ha hb = ap Ok (ror_is a b ha)
agree Rolw a b ha hb = ap Ok (rolw_is a b)
agree Rorw a b ha hb = ap Ok (rorw_is a b)
agree Min a b ha hb = ap Ok (ap (λ (t : Bool). cond t a b) (less-is a b ha hb))
agree Max a b ha hb = ap Ok (max-is a b ha hb)
agree Minu a b ha hb = ap Ok (picked a b a b (min a b) (λ k. min-eq_left (omega arith)) (λ k. min-eq_right k))
agree Maxu a b ha hb = ap Ok (picked a b b a (max a b) (λ k. max-eq_right (omega arith)) (λ k. max-eq_left k))
agree Clz a b ha hb = ap Ok (clz_is 64 a ha)
agree Ctz a b ha hb = ap Ok (ctz_is 64 a)
agree Cpop a b ha hb = ap Ok (cpop_is 64 a ha)
agree Clzw a b ha hb = ap Ok (clzw_is a)
agree Ctzw a b ha hb = ap Ok (ctzw_is a)
agree Cpopw a b ha hb = ap Ok (cpopw_is a)
agree SextB a b ha hb = ap Ok (extended-is 7 a (lit< tt))
agree SextH a b ha hb = ap Ok (extended-is 15 a (lit< tt))
agree ZextH a b ha hb = ap Ok (low_bits 64 16 a (lit≤ tt))
agree Rev8 a b ha hb = ap Ok (rev8_is a)
agree OrcB a b ha hb = ap Ok (orcb_is a)
agree Sh1add a b ha hb = ap Ok (sum_is (shl a 1) (left 64 a 1) b (shl-bits 64 a 1))
agree Sh2add a b ha hb = ap Ok (sum_is (shl a 2) (left 64 a 2) b (shl-bits 64 a 2))
agree Sh3add a b ha hb = ap Ok (sum_is (shl a 3) (left 64 a 3) b (shl-bits 64 a 3))
agree AddUw a b ha hb = ap Ok (sum_is (as_u32 a) (zeroed 32 a) b (low_bits 64 32 a (lit≤ tt)))
agree Sh1addUw a b ha hb = ap Ok (sum_is (shl (as_u32 a) 1) (left 64 (zeroed 32 a) 1) b (shift_word a 1))
agree Sh2addUw a b ha hb = ap Ok (sum_is (shl (as_u32 a) 2) (left 64 (zeroed 32 a) 2) b (shift_word a 2))
agree Sh3addUw a b ha hb = ap Ok (sum_is (shl (as_u32 a) 3) (left 64 (zeroed 32 a) 3) b (shift_word a 3))
agree SlliUw a b ha hb = ap Ok (ap (λ (x : ℕ). shl x (bit_and b 0x3f)) (low_bits 64 32 a (lit≤ tt)) ∙ sll_is (zeroed 32 a) b)
