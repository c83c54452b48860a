-- Either reading gives proper ops, and never a Fallback.
-- Assumes nothing.
use mathlib.Core.Path.{◌≡◌, refl, sym, ◌∙◌}
use mathlib.Core.Bool.{Bool, true, false, cond}
use mathlib.Core.List.{List, [], ◌∷◌}
use Prim.Native.Nat.{ℕ}
use native.Mathlib.Omega.{arith}
use lib.Dec.{eqb}
use Rattle.op.specs.Record.{fallback_number, op_fields}
use Rattle.op.specs.Proper.{Proper}
use Rattle.op.specs.declared.Op.{Op}
use Rattle.op.proofs.Fallback.{Other, none, some, other_op}
use Rattle.word.proofs.Read.{word_op}
use Rattle.halfword.proofs.Read.{half_op}
use Rattle.agree.specs.Differences.{Entry, amended, word_entries, half_entries}
use Rattle.agree.proofs.Words as words
use Rattle.agree.proofs.Halfwords as halves
use Rattle.reading.specs.Readings.{rust, manual, reading_of}
use Rattle.std.specs.Prelude.{Option, Some}

abbrev pub ProperIn : Option Op → Type 0
ProperIn d = (op : Op) → d ≡ Some op → (eqb (op_fields op).op fallback_number ≡ false) × Proper op

-- a list of entries whose answers are
abbrev Each : List Entry → Type 0
Each [] = Unit {0}
Each (e ∷ es) = ((w : ℕ) → Other (e.manual w)) × Each es

amended_proper : (es : List Entry) → Each es → (f : ℕ → Option Op) (w : ℕ) → ProperIn (f w) → ProperIn (amended es f w)
amended_proper [] each f w p = p
amended_proper (e ∷ es) each f w p = by (e.covers w) (amended_proper es each.1 f w p)
  where
    by : (b : Bool) {d : Option Op} → ProperIn d → ProperIn (cond b (e.manual w) d)
    by true p = λ op. other_op (e.manual w) op (each.0 w)
    by false p = p

words_proper : Each word_entries
words_proper = (λ w. none, (λ w. none, (λ w. some refl (omega arith), (λ w. some refl (omega arith), (λ w. none, (λ w. none, (λ w. none, (λ w. some refl (omega arith), (λ w. some refl (omega arith), (λ w. some refl (omega arith), (λ w. some refl (omega arith), tt)))))))))))

halves_proper : Each half_entries
halves_proper = (λ w. none, (λ w. none, (λ w. none, (λ w. none, (λ w. none, (λ w. none, tt))))))

pub word_proper : (n w : ℕ) → ProperIn ((reading_of n).of_word w)
unfolding reading_of
word_proper n w = by (eqb n 1)
  where
    by : (b : Bool) → ProperIn ((cond b manual rust).of_word w)
    by true = λ op e. amended_proper word_entries words_proper rust.of_word w (word_op w) op (sym (words.manual-is w) ∙ e)
    by false = word_op w

pub half_proper : (n w : ℕ) → ProperIn ((reading_of n).of_half w)
unfolding reading_of
half_proper n w = by (eqb n 1)
  where
    by : (b : Bool) → ProperIn ((cond b manual rust).of_half w)
    by true = λ op e. amended_proper half_entries halves_proper rust.of_half w (half_op w) op (sym (halves.manual-is w) ∙ e)
    by false = half_op w
