-- At every word of an entry the Rust and the manual read what the entry says.
-- Assumes nothing.
use mathlib.Core.Path.{◌≡◌, refl}
use mathlib.Core.Bool.{true}
use Prim.Native.Nat.{ℕ, ◌+◌, ◌*◌, ◌/◌, ◌%◌, ◌^◌}
use native.Mathlib.Nat.{div-div-eq-div-mul}
use native.Mathlib.Omega.{arith}
use lib.Dec.{eqb}
use borrow.Author.Tests.{eqb-true}
use Rattle.std.specs.Prelude.{Option, option_map}
use Rattle.bits.specs.Bits.{bits_at}
use Rattle.word.specs.declared.Form.{Form}
use Rattle.word.specs.Word as rust
use Rattle.word.specs.Word.{form_by, form_of, rust_word}
use Rattle.manual.specs.Words.{Format, format_by, manual_word, op_of}
use Rattle.agree.specs.Differences.{Told, imm, reg, word_entries}
use Rattle.agree.proofs.Entries.{fields}

-- bits 31 to 20 in two parts
pub top_is : (w : ℕ) → bits_at w 20 12 ≡ bits_at w 25 7 * 32 + bits_at w 20 5
top_is w = let e : w / 2 ^ 20 / 2 ^ 5 ≡ w / 2 ^ 25 = div-div-eq-div-mul w (2 ^ 20) (2 ^ 5) in omega arith

-- the fields that an entry asks for decide form and format
abbrev Reads : ℕ → Option Form → Format → Type 0
Reads w form format = (rust_word w ≡ option_map (rust.op_of w) form) × (manual_word w ≡ op_of w format)

at-imm : (f3 top w : ℕ) → imm f3 top w ≡ true → Reads w (form_by 0x13 f3 (top / 32) (top % 32)) (format_by 0x13 f3 (top / 32) (top % 32))
at-imm f3 top w h =
    let k = fields (bits_at w 0 7) 0x13 (bits_at w 12 3) f3 (eqb (bits_at w 20 12) top) h in
    let t = eqb-true (bits_at w 20 12) top k.2 in
    let s = top_is w in
    let a : bits_at w 25 7 ≡ top / 32 = omega arith in
    let b : bits_at w 20 5 ≡ top % 32 = omega arith in
    rw (k.0, k.1, a, b) (refl, refl)

at_reg : (f3 f7 w : ℕ) → reg f3 f7 w ≡ true → Reads w (form_by 0x33 f3 f7 (bits_at w 20 5)) (format_by 0x33 f3 f7 (bits_at w 20 5))
at_reg f3 f7 w h =
    let k = fields (bits_at w 0 7) 0x33 (bits_at w 12 3) f3 (eqb (bits_at w 25 7) f7) h in
    rw (k.0, k.1, eqb-true (bits_at w 25 7) f7 k.2) (refl, refl)

pub told : Told word_entries rust_word manual_word
unfolding form_by format_by
told = (refl, at-imm 1 0x682, (refl, at-imm 1 0x684, (refl, at-imm 1 0x604, (refl, at-imm 1 0x605, (refl, at-imm 5 0xd58, (refl, at-imm 5 0xd48, (refl, at-imm 5 0x507, (refl, at-imm 5 0x6b8, (refl, at-imm 5 0x287, (refl, at_reg 5 5, (refl, at_reg 6 5, tt)))))))))))
