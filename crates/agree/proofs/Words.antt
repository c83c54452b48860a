-- Outside the entries the Rust and the manual read each word alike; at every entry they differ.
-- Both formats are functions of opcode, funct3, bits 31 to 25 and bits 24 to 20. antt computes the test `right` at the numbers that
-- decide, with the fields that do not matter left open.
-- Assumes nothing.
use mathlib.Core.Path.{◌≡◌, refl, ap, ◌∙◌}
use mathlib.Core.Bool.{Bool, true, false, not, ◌||◌, ◌&&◌}
use mathlib.Core.List.{List, [], ◌∷◌}
use Prim.Native.Nat.{ℕ, ◌+◌, ◌*◌, ◌^◌, ◌<◌}
use native.Mathlib.Omega.{arith}
use lib.Dec.{T, eqb}
use borrow.Author.Tests.{ne_eqb}
use Rattle.bits.specs.Bits.{bits_at}
use Rattle.bits.proofs.Every.{every, at, at_three, decide}
use Rattle.word.specs.Word.{form_by, form_of, rust_word}
use Rattle.manual.specs.Words.{format_by, manual_word, op_of}
use Rattle.agree.specs.Differences.{listed, amended, word_entries}
use Rattle.agree.proofs.Entries.{lead, differ_by, manual_by}
use Rattle.agree.proofs.Formats.{named, operands, same, same_is}
use Rattle.agree.proofs.ToldWords.{top_is, told}

-- a word with these fields
abbrev word_of : ℕ → ℕ → ℕ → ℕ → ℕ
word_of op f3 f7 rs2 = op + 2 ^ 12 * f3 + 2 ^ 20 * rs2 + 2 ^ 25 * f7

-- alike, or an entry; where they are alike the fields left open keep `listed` from computing, and it needn't
unfoldable right : ℕ → ℕ → ℕ → ℕ → Bool
right op f3 f7 rs2 = same (named (form_by op f3 f7 rs2)) (format_by op f3 f7 rs2) || listed word_entries (word_of op f3 f7 rs2)

abbrev among : ℕ → List ℕ → Bool
among x [] = false
among x (y ∷ ys) = eqb x y || among x ys

-- the opcodes whose formats go by further fields
abbrev hard_ops : List ℕ
hard_ops = 0x13 ∷ 0x1b ∷ 0x33 ∷ 0x3b ∷ 0x03 ∷ 0x23 ∷ 0x63 ∷ 0x67 ∷ []

easy : (f3 f7 rs2 : ℕ) → T (every 128 (λ op. among op hard_ops || right op f3 f7 rs2))
unfolding right form_by format_by
easy f3 f7 rs2 = tt

-- those that go by funct3 alone
by_funct3 : (f7 rs2 : ℕ) → T (every 8 (λ f3. right 0x03 f3 f7 rs2 && right 0x23 f3 f7 rs2 && right 0x63 f3 f7 rs2 && right 0x67 f3 f7 rs2))
unfolding right form_by format_by
by_funct3 f7 rs2 = tt

-- the pairs of funct3 and bits 31 to 25 at which bits 24 to 20 matter or an entry stands, by opcode
abbrev hard13 : ℕ → ℕ → Bool
hard13 f3 f7 = (eqb f3 1 && among f7 (0x30 ∷ 0x31 ∷ 0x34 ∷ 0x35 ∷ [])) || (eqb f3 5 && among f7 (0x28 ∷ 0x29 ∷ 0x6a ∷ 0x6b ∷ 0x14 ∷ 0x35 ∷ []))

abbrev hard1b : ℕ → ℕ → Bool
hard1b f3 f7 = eqb f3 1 && eqb f7 0x30

abbrev hard33 : ℕ → ℕ → Bool
hard33 f3 f7 = eqb f7 5 && among f3 (5 ∷ 6 ∷ [])

abbrev hard3b : ℕ → ℕ → Bool
hard3b f3 f7 = eqb f3 4 && eqb f7 0x04

abbrev Open : ℕ → (ℕ → ℕ → Bool) → Type 0
Open op hard = (rs2 : ℕ) → T (every 8 (λ f3. every 128 (λ f7. hard f3 f7 || right op f3 f7 rs2)))

abbrev Each : ℕ → (ℕ → ℕ → Bool) → Type 0
Each op hard = T (every 8 (λ f3. every 128 (λ f7. not (hard f3 f7) || every 32 (λ rs2. right op f3 f7 rs2))))

open_13 : Open 0x13 hard13
unfolding right form_by format_by
open_13 rs2 = tt

each_13 : Each 0x13 hard13
unfolding right form_by format_by
each_13 = tt

open_1b : Open 0x1b hard1b
unfolding right form_by format_by
open_1b rs2 = tt

each_1b : Each 0x1b hard1b
unfolding right form_by format_by
each_1b = tt

open_33 : Open 0x33 hard33
unfolding right form_by format_by
open_33 rs2 = tt

each_33 : Each 0x33 hard33
unfolding right form_by format_by
each_33 = tt

open_3b : Open 0x3b hard3b
unfolding right form_by format_by
open_3b rs2 = tt

each_3b : Each 0x3b hard3b
unfolding right form_by format_by
each_3b = tt

without : (a b : Bool) → T (a || b) → b ≡ false → T a
without true b t h = tt
without false b t h = rw h at t

four : (a b c d : Bool) → T (a && b && c && d) → T a × T b × T c × T d
four true true true d t = (tt, tt, tt, t)
four true true false d t = absurd t
four true false c d t = absurd t
four false b c d t = absurd t

module _ (op f3 f7 rs2 : ℕ) (ho : op < 128) (h3 : f3 < 8) (h7 : f7 < 128) (h2 : rs2 < 32) where
  plain : T (right 0x03 f3 f7 rs2) × T (right 0x23 f3 f7 rs2) × T (right 0x63 f3 f7 rs2) × T (right 0x67 f3 f7 rs2)
  plain =
      four (right 0x03 f3 f7 rs2) (right 0x23 f3 f7 rs2) (right 0x63 f3 f7 rs2) (right 0x67 f3 f7 rs2)
      (at 8 (λ f3. right 0x03 f3 f7 rs2 && right 0x23 f3 f7 rs2 && right 0x63 f3 f7 rs2 && right 0x67 f3 f7 rs2) (by_funct3 f7 rs2) f3 h3)

  hard_rule : (op : ℕ) (hard : ℕ → ℕ → Bool) → Open op hard → Each op hard → T (right op f3 f7 rs2)
  hard_rule op hard o e = at_three 8 128 32 hard (right op) o e f3 f7 rs2 h3 h7 h2

  rule : T (right op f3 f7 rs2)
  rule =
      decide op 0x13 (λ e. rw e (hard_rule 0x13 hard13 open_13 each_13))
      (λ n1. decide op 0x1b (λ e. rw e (hard_rule 0x1b hard1b open_1b each_1b))
      (λ n2. decide op 0x33 (λ e. rw e (hard_rule 0x33 hard33 open_33 each_33))
      (λ n3. decide op 0x3b (λ e. rw e (hard_rule 0x3b hard3b open_3b each_3b))
      (λ n4. decide op 0x03 (λ e. rw e plain.0)
      (λ n5. decide op 0x23 (λ e. rw e plain.1)
      (λ n6. decide op 0x63 (λ e. rw e plain.2)
      (λ n7. decide op 0x67 (λ e. rw e plain.3)
      (λ n8. rw (ne_eqb op 0x13 n1, ne_eqb op 0x1b n2, ne_eqb op 0x33 n3, ne_eqb op 0x3b n4, ne_eqb op 0x03 n5, ne_eqb op 0x23 n6, ne_eqb op 0x63 n7, ne_eqb op 0x67 n8) at
      (at 128 (λ o. among o hard_ops || right o f3 f7 rs2) (easy f3 f7 rs2) op ho)))))))))

  -- what the entries ask of the word with these fields
  of_opcode : bits_at (word_of op f3 f7 rs2) 0 7 ≡ op
  of_opcode = omega arith

  of_funct3 : bits_at (word_of op f3 f7 rs2) 12 3 ≡ f3
  of_funct3 = omega arith

  of_funct7 : bits_at (word_of op f3 f7 rs2) 25 7 ≡ f7
  of_funct7 = omega arith

  of_top : bits_at (word_of op f3 f7 rs2) 20 12 ≡ f7 * 32 + rs2
  of_top = omega arith

  -- so of any word with these fields
  alike : (w : ℕ) → bits_at w 0 7 ≡ op → bits_at w 12 3 ≡ f3 → bits_at w 25 7 ≡ f7 → bits_at w 20 12 ≡ f7 * 32 + rs2 → listed word_entries w ≡ false
      → named (form_by op f3 f7 rs2) ≡ format_by op f3 f7 rs2
  unfolding right
  alike w a b c d e =
      let form = named (form_by op f3 f7 rs2) in
      let format = format_by op f3 f7 rs2 in
      same_is form format
      (without (same form format) (listed word_entries (word_of op f3 f7 rs2)) rule (rw (of_opcode, of_funct3, of_funct7, of_top) (rw (a, b, c, d) at e)))

pub agree : (w : ℕ) → listed word_entries w ≡ false → rust_word w ≡ manual_word w
agree w e =
    operands w (form_of w)
    ∙ ap (op_of w) (alike (bits_at w 0 7) (bits_at w 12 3) (bits_at w 25 7) (bits_at w 20 5) (omega arith) (omega arith) (omega arith) (omega arith) w refl refl refl (top_is w) e)

-- in the op or its kind, or in having one
pub unlike : (w : ℕ) → listed word_entries w ≡ true → lead (rust_word w) ≡ lead (manual_word w) → ⊥
unlike w = differ_by rust_word manual_word word_entries told w tt

pub differ : (w : ℕ) → listed word_entries w ≡ true → rust_word w ≡ manual_word w → ⊥
differ w h e = unlike w h (ap lead e)

pub manual-is : (w : ℕ) → manual_word w ≡ amended word_entries rust_word w
manual-is w = manual_by rust_word manual_word word_entries told w (agree w)
