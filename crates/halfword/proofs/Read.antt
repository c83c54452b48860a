-- What the Rust reading of a halfword never gives: a Fallback, or an op where the low bits are 11.
-- Assumes nothing.
use mathlib.Core.Path.{◌≡◌, refl}
use mathlib.Core.Bool.{Bool, true, false, cond}
use Prim.Native.Nat.{ℕ, ◌+◌, ◌*◌}
use native.Mathlib.Omega.{arith}
use lib.Dec.{eqb}
use borrow.Author.Tests.{ne_eqb}
use Rattle.bits.specs.Bits.{bits_at}
use Rattle.bits.specs.Match.{case}
use Rattle.bits.proofs.Cases.{at-any}
use Rattle.bits.proofs.Every.{each, decide}
use Rattle.op.specs.Record.{fallback_number, op_fields}
use Rattle.op.specs.declared.Op.{Op}
use Rattle.op.specs.declared.Op.TheVariants.{Fallback}
use Rattle.std.specs.Prelude.{Some, None}
use Rattle.op.proofs.Fallback.{Other, no_fallback, none, some, other_op}
use Rattle.op.specs.Proper.{Proper}
use Rattle.halfword.specs.Instruction.{quadrant, funct3, rd, rs2}
use Rattle.halfword.specs.Halfword.{nzuimm_addi4spn, half_rows, half_at, rust_half, misc_rows, prime_rows, jr_mv, jalr_add}

prime_other : (w k : ℕ) → Other (case k (prime_rows w) None)
prime_other w k = at-any Other k (prime_rows w) ((((((tt, some refl (omega arith)), some refl (omega arith)), some refl (omega arith)), some refl (omega arith)), some refl (omega arith)), some refl (omega arith)) none

misc_other : (w k : ℕ) → Other (case k (misc_rows w) (case (bits_at w 12 1 * 4 + bits_at w 5 2) (prime_rows w) None))
misc_other w k = at-any Other k (misc_rows w) (((tt, some refl (omega arith)), some refl (omega arith)), some refl (omega arith)) (prime_other w (bits_at w 12 1 * 4 + bits_at w 5 2))

jumps_other : (w : ℕ) (b : Bool) → Other (cond b (jr_mv w) (jalr_add w))
jumps_other w true = decide (rs2 w) 0 (λ e. rw e (some refl (omega arith))) (λ n. rw (ne_eqb (rs2 w) 0 n) (some refl (omega arith)))
jumps_other w false =
    decide (rs2 w) 0
    (λ e. decide (rd w) 0 (λ d. rw (e, d) none) (λ n. rw (e, ne_eqb (rd w) 0 n) (some refl (omega arith))))
    (λ n. rw (ne_eqb (rs2 w) 0 n) (some refl (omega arith)))

addi4spn_other : (w : ℕ) → Other (half_at 0x00 w)
addi4spn_other w = decide (nzuimm_addi4spn w) 0 (λ e. rw e none) (λ n. rw (ne_eqb (nzuimm_addi4spn w) 0 n) (some refl (omega arith)))

lui_other : (w : ℕ) → Other (half_at 0x13 w)
lui_other w = decide (rd w) 2 (λ e. rw e (some refl (omega arith))) (λ n. rw (ne_eqb (rd w) 2 n) (some refl (omega arith)))

half_other : (w key : ℕ) → Other (half_at key w)
half_other w key =
    at-any Other key (half_rows w)
    (((((((((((((((((((tt, addi4spn_other w), some refl (omega arith)), some refl (omega arith)), some refl (omega arith)), some refl (omega arith)), some refl (omega arith)), some refl (omega arith)), some refl (omega arith)), lui_other w), misc_other w (bits_at w 10 2)), some refl (omega arith)), some refl (omega arith)), some refl (omega arith)), some refl (omega arith)), some refl (omega arith)), some refl (omega arith)), jumps_other w (eqb (bits_at w 12 1) 0)), some refl (omega arith)), some refl (omega arith))
    none

pub half_no_fallback : (w raw : ℕ) → rust_half w ≡ Some (Fallback raw) → ⊥
half_no_fallback w raw = no_fallback (rust_half w) raw (half_other w (quadrant w * 0x10 + funct3 w))

pub half_low : (w : ℕ) → bits_at w 0 2 ≡ 3 → rust_half w ≡ None
half_low w h =
    rw h
    (each 8 (λ f3. half_at (3 * 0x10 + f3) w ≡ None)
    ((((((((tt, refl), refl), refl), refl), refl), refl), refl), refl)
    (funct3 w) (omega arith))

-- so an op that a halfword is read as has a record that is well formed
pub half_op : (w : ℕ) (op : Op) → rust_half w ≡ Some op → (eqb (op_fields op).op fallback_number ≡ false) × Proper op
half_op w op = other_op (rust_half w) op (half_other w (quadrant w * 0x10 + funct3 w))
