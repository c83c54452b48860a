-- What the fields of a word, or of a halfword, say of the entries that cover it, and so of what the manual reads it as.
-- Assumes nothing.
use mathlib.Core.Path.{◌≡◌, refl, sym, ◌∙◌}
use mathlib.Core.Bool.{Bool, true, false, ◌&&◌}
use Prim.Native.Nat.{ℕ, ◌+◌, ◌*◌, ◌%◌, ◌<◌}
use native.Mathlib.Omega.{arith}
use lib.Dec.{eqb}
use lib.IntN.{pos}
use borrow.Author.Tests.{eqb-true, ne_eqb}
use Rattle.bits.specs.Bits.{bits_at}
use Rattle.bits.proofs.Tests.{and_both, not_true}
use Rattle.op.specs.declared.AluKind.{AluKind}
use Rattle.op.specs.declared.Op.TheVariants.{AluImm, AluReg}
use Rattle.word.specs.Instruction as inst
use Rattle.word.specs.Word.{rust_word}
use Rattle.manual.specs.Words.{manual_word}
use Rattle.agree.specs.Differences.{listed, imm, unary, reg, binary, row, half_entries}
use Rattle.agree.proofs.Words as words
use Rattle.op.specs.declared.Op.{Op}
use Rattle.std.specs.Prelude.{Option, Some}

-- an entry's answer, with the operands that the decoder read
pub unary_made : (kind : AluKind) (w a b : ℕ) → a ≡ inst.rd w → b ≡ inst.rs1 w → {d : Option Op} → unary kind w ≡ d → Some (AluImm kind a b (pos 0)) ≡ d
unary_made kind w a b ea eb e = rw (ea, eb) e

pub binary_made : (kind : AluKind) (w a b c : ℕ) → a ≡ inst.rd w → b ≡ inst.rs1 w → c ≡ inst.rs2 w → {d : Option Op} → binary kind w ≡ d → Some (AluReg kind a b c) ≡ d
binary_made kind w a b c ea eb ec e = rw (ea, eb, ec) e

-- the three fields that an entry of words asks for
three : (x k y l z m : ℕ) → (eqb x k && eqb y l && eqb z m) ≡ true → (x ≡ k) × (y ≡ l) × (z ≡ m)
three x k y l z m h =
    let a = and_both (eqb x k && eqb y l) (eqb z m) h in
    let b = and_both (eqb x k) (eqb y l) a.0 in
    (eqb-true x k b.0, eqb-true y l b.1, eqb-true z m a.1)

-- the fields of a key
split : (f t low f3 top : ℕ) → t < 0x1000 → low < 4 → top < 0x1000 → f * 0x10000 + t * 0x10 + low ≡ f3 * 0x10000 + top * 0x10 + 3 → (low ≡ 3) × (f ≡ f3) × (t ≡ top)
split f t low f3 top a b c e =
    let last : low ≡ 3 = omega arith in
    let first : f ≡ f3 = omega arith in
    (last, first, omega arith)

-- the decoder's key of a word: funct3, a field of bits 31 to 20, and bits 1 and 0
abbrev pub word_key : ℕ → ℕ → ℕ → ℕ
word_key w funct3 field = funct3 * 0x10000 + field * 0x10 + w % 4

-- a word whose bits 6 to 2 are `five`, with the fields that the decoder read
module _ (five w funct3 field high : ℕ) (is3 : funct3 ≡ bits_at w 12 3) (is : field ≡ high) (small : high < 0x1000) (op : bits_at w 2 5 ≡ five) where
  -- the fields in an entry's arm
  pub at_key : (f3 m : ℕ) → m < 0x1000 → word_key w funct3 field ≡ f3 * 0x10000 + m * 0x10 + 3 → (bits_at w 0 7 ≡ five * 4 + 3) × (bits_at w 12 3 ≡ f3) × (high ≡ m)
  at_key f3 m h e =
      let k = split funct3 field (w % 4) f3 m (omega arith) (omega arith) h e in
      (omega (arith, k.0), sym is3 ∙ k.1, sym is ∙ k.2)

  -- an entry that has another key does not cover the word
  not_at : (f3 m : ℕ) → (word_key w funct3 field ≡ f3 * 0x10000 + m * 0x10 + 3 → ⊥) → (eqb (bits_at w 0 7) (five * 4 + 3) && eqb (bits_at w 12 3) f3 && eqb high m) ≡ false
  not_at f3 m n =
      not_true (eqb (bits_at w 0 7) (five * 4 + 3) && eqb (bits_at w 12 3) f3 && eqb high m)
      (λ t. let k = three (bits_at w 0 7) (five * 4 + 3) (bits_at w 12 3) f3 high m t in n (omega arith))

-- where no entry has the key, the Rust's rows answer: opcode 0x13
module _ (w funct3 : ℕ) (is : funct3 ≡ bits_at w 12 3) (op : bits_at w 2 5 ≡ 0x4) where
  abbrev imm_key : ℕ
  imm_key = word_key w funct3 (bits_at w 20 12)

  not_imm : (f3 top : ℕ) → (imm_key ≡ f3 * 0x10000 + top * 0x10 + 3 → ⊥) → imm f3 top w ≡ false
  not_imm = not_at 0x4 w funct3 (bits_at w 20 12) (bits_at w 20 12) is refl (omega arith) op

  pub imm_alike : (imm_key ≡ 0x16043 → ⊥) → (imm_key ≡ 0x16053 → ⊥) → (imm_key ≡ 0x16823 → ⊥) → (imm_key ≡ 0x16843 → ⊥)
      → (imm_key ≡ 0x52873 → ⊥) → (imm_key ≡ 0x56b83 → ⊥) → (imm_key ≡ 0x55073 → ⊥) → (imm_key ≡ 0x5d483 → ⊥) → (imm_key ≡ 0x5d583 → ⊥)
      → rust_word w ≡ manual_word w
  imm_alike a b c d e f g h i =
      words.agree w
      (rw (
        not_imm 1 0x604 a,
        not_imm 1 0x605 b,
        not_imm 1 0x682 c,
        not_imm 1 0x684 d,
        not_imm 5 0x287 e,
        not_imm 5 0x6b8 f,
        not_imm 5 0x507 g,
        not_imm 5 0xd48 h,
        not_imm 5 0xd58 i,
        ne_eqb (bits_at w 0 7) 0x33 (λ o. omega arith),
      )
      refl)

-- and opcode 0x33
module _ (w funct3 funct7 : ℕ) (is3 : funct3 ≡ bits_at w 12 3) (is7 : funct7 ≡ bits_at w 25 7) (op : bits_at w 2 5 ≡ 0xc) where
  not-reg : (f3 f7 : ℕ) → (word_key w funct3 funct7 ≡ f3 * 0x10000 + f7 * 0x10 + 3 → ⊥) → reg f3 f7 w ≡ false
  not-reg = not_at 0xc w funct3 funct7 (bits_at w 25 7) is3 is7 (omega arith) op

  pub reg_alike : (word_key w funct3 funct7 ≡ 0x50053 → ⊥) → (word_key w funct3 funct7 ≡ 0x60053 → ⊥) → rust_word w ≡ manual_word w
  reg_alike a b = words.agree w (rw (not-reg 5 5 a, not-reg 6 5 b, ne_eqb (bits_at w 0 7) 0x13 (λ o. omega arith)) refl)

pub other_alike : (w : ℕ) → (bits_at w 2 5 ≡ 0x4 → ⊥) → (bits_at w 2 5 ≡ 0xc → ⊥) → rust_word w ≡ manual_word w
other_alike w a b = words.agree w (rw (ne_eqb (bits_at w 0 7) 0x13 (λ o. a (omega arith)), ne_eqb (bits_at w 0 7) 0x33 (λ o. b (omega arith))) refl)

-- a halfword, by the decoder's key
module _ (w quadrant funct3 : ℕ) (is : quadrant ≡ bits_at w 0 2) (is3 : funct3 ≡ bits_at w 13 3) where
  abbrev pub half_key : ℕ
  half_key = quadrant * 0x10 + funct3

  pub half_fields : (q f3 : ℕ) → f3 < 8 → half_key ≡ q * 0x10 + f3 → (bits_at w 0 2 ≡ q) × (bits_at w 13 3 ≡ f3)
  half_fields q f3 h e = (omega arith, omega arith)

  not-row : (q f3 : ℕ) (asked : ℕ → Bool) → (half_key ≡ q * 0x10 + f3 → ⊥) → row q f3 asked w ≡ false
  not-row q f3 asked n =
      not_true (row q f3 asked w)
      (λ t.
      let a = and_both (eqb (bits_at w 0 2) q && eqb (bits_at w 13 3) f3) (asked w) t in
      let b = and_both (eqb (bits_at w 0 2) q) (eqb (bits_at w 13 3) f3) a.0 in
      n (omega (arith, eqb-true (bits_at w 0 2) q b.0, eqb-true (bits_at w 13 3) f3 b.1)))

  pub not_listed : (half_key ≡ 0x11 → ⊥) → (half_key ≡ 0x13 → ⊥) → (half_key ≡ 0x22 → ⊥) → (half_key ≡ 0x23 → ⊥) → (half_key ≡ 0x24 → ⊥) → listed half_entries w ≡ false
  not_listed a b c d e = rw (not-row 1 1 _ a, not-row 1 3 _ b, not-row 1 3 _ b, not-row 2 2 _ c, not-row 2 3 _ d, not-row 2 4 _ e) refl
