-- What the Rust reading of a word never gives: a Fallback, or an op where the low bits are not 11.
-- Assumes nothing.
use mathlib.Core.Path.{◌≡◌, refl}
use mathlib.Core.Bool.{false, ◌||◌}
use Prim.Native.Nat.{ℕ, ◌%◌}
use native.Mathlib.Omega.{arith}
use lib.Dec.{T, eqb}
use borrow.Author.Tests.{ne_eqb}
use Rattle.bits.specs.Bits.{bits_at}
use Rattle.bits.proofs.Every.{every, at}
use Rattle.op.specs.Record.{fallback_number, op_fields}
use Rattle.op.specs.declared.Op.{Op}
use Rattle.op.specs.declared.Op.TheVariants.{Fallback}
use Rattle.std.specs.Prelude.{Option, Some, None, is_none, option_map}
use Rattle.op.proofs.Fallback.{Other, no_fallback, none, some, other_op}
use Rattle.op.specs.Proper.{Proper}
use Rattle.word.specs.Instruction.{opcode, funct3, funct7, rs2}
use Rattle.word.specs.Word.{form_by, form_of, op_of, rust_word}
use Rattle.word.specs.declared.Form.{Form}
use Rattle.word.specs.declared.Form.TheVariants.{Lui, Auipc, Jal, Jalr, Branch, Load, Store, Imm, Shift6, Shift5, Unary, Reg}

op_other : (w : ℕ) (f : Form) → Other (Some (op_of w f))
op_other w Lui = some refl (omega arith)
op_other w Auipc = some refl (omega arith)
op_other w Jal = some refl (omega arith)
op_other w Jalr = some refl (omega arith)
op_other w (Branch k) = some refl (omega arith)
op_other w (Load k) = some refl (omega arith)
op_other w (Store k) = some refl (omega arith)
op_other w (Imm k) = some refl (omega arith)
op_other w (Shift6 k) = some refl (omega arith)
op_other w (Shift5 k) = some refl (omega arith)
op_other w (Unary k) = some refl (omega arith)
op_other w (Reg k) = some refl (omega arith)

form_other : (w : ℕ) (f : Option Form) → Other (option_map (op_of w) f)
form_other w None = none
form_other w (Some form) = op_other w form

pub word_no_fallback : (w raw : ℕ) → rust_word w ≡ Some (Fallback raw) → ⊥
word_no_fallback w raw = no_fallback (rust_word w) raw (form_other w (form_of w))

reads-none-is : (w : ℕ) (f : Option Form) → T (is_none f) → option_map (op_of w) f ≡ None
reads-none-is w None t = refl
reads-none-is w (Some form) t = absurd t

read_none : (f3 f7 r2 : ℕ) → T (every 128 (λ op. eqb (op % 4) 3 || is_none (form_by op f3 f7 r2)))
unfolding form_by
read_none f3 f7 r2 = tt

pub word_low : (w : ℕ) → (bits_at w 0 2 ≡ 3 → ⊥) → rust_word w ≡ None
word_low w h =
    let n : opcode w % 4 ≡ 3 → ⊥ = λ e. h (omega arith) in
    reads-none-is w (form_of w)
    (rw (ne_eqb (opcode w % 4) 3 n) at
    (at 128 (λ op. eqb (op % 4) 3 || is_none (form_by op (funct3 w) (funct7 w) (rs2 w))) (read_none (funct3 w) (funct7 w) (rs2 w)) (opcode w) (omega arith)))

-- so an op that a word is read as has a record that is well formed
pub word_op : (w : ℕ) (op : Op) → rust_word w ≡ Some op → (eqb (op_fields op).op fallback_number ≡ false) × Proper op
word_op w op = other_op (rust_word w) op (form_other w (form_of w))
