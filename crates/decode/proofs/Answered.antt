-- What was put at the start of a buffer of one record's length tells the decode call's outcome, and its judge lets no other length through.
-- Assumes nothing.
use mathlib.Core.Path.{◌≡◌, refl, sym, ap, ◌∙◌}
use mathlib.Core.Bool.{Bool, true, false, cond, not}
use mathlib.Core.List.{List}
use Prim.Native.Nat.{ℕ}
use lib.Dec.{eqb}
use lib.ListN.{length}
use borrow.Author.Tests.{eqb-true}
use Rattle.answer.specs.declared.Refusal.TheVariants.{BadGeometry, NoOp, WrongBuffer}
use Rattle.bits.proofs.Bytes.{patch_whole}
use Rattle.op.specs.Reading.{reading_known}
use Rattle.op.specs.Record.{op_fields, op_record}
use Rattle.op.proofs.Record.{length_record}
use Rattle.decode.specs.Call.{put_of, decode_judged, decoded_into}
use Rattle.answer.specs.Answer.{done}
use Rattle.decode.specs.declared.Recorded.{Recorded}
use Rattle.op.specs.declared.Op.{Op}
use Rattle.std.specs.Prelude.{Option, Some, None, Err}

module _ (s : List ℕ) (e : length s ≡ 16) (ilen : ℕ) {t : List ℕ} {p : Option Recorded} where
  pub recorded : (d : Option Op) {r : Recorded} → p ≡ Some r → (p, t) ≡ put_of d ilen 0 0 s → (done, t) ≡ decoded_into done d ilen s
  recorded (Some op) told was =
      let whole = patch_whole s (op_record op ilen 0) (e ∙ sym (length_record op ilen 0)) in
      ap (λ (u : List ℕ). (done, u)) (ap (λ (o : Option Recorded × List ℕ). o.1) was ∙ whole)
  recorded None told was = let none : p ≡ None = ap (λ (o : Option Recorded × List ℕ). o.0) was in cc

  pub nothing : (d : Option Op) → p ≡ None → (p, t) ≡ put_of d ilen 0 0 s → (Err NoOp, t) ≡ decoded_into done d ilen s
  nothing None told was = ap (λ (o : Option Recorded × List ℕ). (Err NoOp, o.1)) was
  nothing (Some op) told was = let some : p ≡ Some (record { op = (op_fields op).op; ilen = ilen }) = ap (λ (o : Option Recorded × List ℕ). o.0) was in cc

-- the judge found a record's length
pub sixteen : (reading room : ℕ) → decode_judged reading room ≡ done → room ≡ 16
sixteen reading room e = eqb-true room 16 (by (reading_known reading) (eqb room 16) e)
  where
    by : (a b : Bool) → cond (not a) (Err BadGeometry) (cond (not b) (Err WrongBuffer) done) ≡ done → b ≡ true
    by true true e = refl
    by true false e = cc
    by false b e = cc
