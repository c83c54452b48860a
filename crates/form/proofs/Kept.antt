-- What holds where there is no op, and of every op that may be kept at an offset, holds of what stands there.
-- Assumes nothing.
use mathlib.Core.Path.{◌≡◌, refl}
use mathlib.Core.Bool.{Bool, true, false, cond}
use mathlib.Core.List.{List}
use Prim.Native.Nat.{ℕ, ◌+◌, ◌%◌, ◌≤◌}
use native.Mathlib.Omega.{arith}
use lib.Dec.{eqb, ltb}
use lib.ListN.{length}
use borrow.Author.Tests.{ltb-false}
use Rattle.bits.specs.Bytes.{halfword_at, word_at}
use Rattle.op.specs.Reading.{Reading}
use Rattle.op.specs.declared.Op.{Op}
use Rattle.op.specs.declared.Op.TheVariants.{Fallback}
use Rattle.form.specs.Forming.{stops_block, or_fallback, ilen_at, op_at}
use Rattle.std.specs.Prelude.{Option, Some, None}

module _ (P : Option Op → ℕ → Type 0) (none : (ilen : ℕ) → P None ilen) where
  half_case : (d : Option Op) → ((op : Op) → d ≡ Some op → P (Some op) 2) → P d 2
  half_case (Some op) f = f op refl
  half_case None f = none 2

  unless : (b : Bool) {d : Option Op} → P d 4 → P (cond b None d) 4
  unless true p = none 4
  unless false p = p

  word_case : (raw : ℕ) (d : Option Op) → ((op : Op) → d ≡ Some op → P (Some op) 4) → P (Some (Fallback raw)) 4 → P (or_fallback raw d) 4
  word_case raw (Some op) f g = f op refl
  word_case raw None f g = unless (stops_block raw) g

  chosen : (a b c : Bool) (w h : Option Op) → (c ≡ false → P w 4) → (a ≡ false → P h 2) → P (cond a None (cond (eqb (cond b 4 2) 2) h (cond c None w))) (cond b 4 2)
  chosen true b c w h f g = none (cond b 4 2)
  chosen false true true w h f g = none 4
  chosen false true false w h f g = f refl
  chosen false false c w h f g = g refl

  pub op_by : (r : Reading) (s : List ℕ) (at : ℕ)
      → (at + 2 ≤ length s → (op : Op) → r.of_half (halfword_at s at) ≡ Some op → P (Some op) 2)
      → (at + 4 ≤ length s → (op : Op) → r.of_word (word_at s at) ≡ Some op → P (Some op) 4)
      → (at + 4 ≤ length s → P (Some (Fallback (word_at s at))) 4)
      → P (op_at r s at) (ilen_at s at)
  unfolding op_at
  op_by r s at half word raw =
      chosen (ltb (length s) (at + 2)) (eqb (halfword_at s at % 4) 3) (ltb (length s) (at + 4)) (or_fallback (word_at s at) (r.of_word (word_at s at))) (r.of_half (halfword_at s at))
      (λ e. word_case (word_at s at) (r.of_word (word_at s at)) (word (ltb-false _ _ e)) (raw (ltb-false _ _ e)))
      (λ e. half_case (r.of_half (halfword_at s at)) (half (ltb-false _ _ e)))

-- an op lies within s
abbrev pub Within : List ℕ → ℕ → Option Op → ℕ → Type 0
Within s at None ilen = Unit {0}
Within s at (Some op) ilen = (at + ilen ≤ length s) × (2 ≤ ilen) × (ilen ≤ 4)

pub within : (r : Reading) (s : List ℕ) (at : ℕ) → Within s at (op_at r s at) (ilen_at s at)
within r s at = op_by (Within s at) (λ ilen. tt) r s at (λ h op e. omega arith) (λ h op e. omega arith) (λ h. omega arith)
