-- What was put into the lent bytes tells what was decoded; and what forming makes of it.
-- Assumes nothing.
use mathlib.Core.Path.{◌≡◌, refl, sym, ap, ◌∙◌}
use mathlib.Core.Bool.{true, false}
use mathlib.Core.List.{List}
use Prim.Native.Nat.{ℕ}
use Rattle.bits.specs.Bytes.{patch}
use Rattle.op.specs.Record.{op_fields, op_record}
use Rattle.op.specs.declared.Op.{Op}
use Rattle.op.specs.declared.Op.TheVariants.{Fallback}
use Rattle.decode.specs.Call.{put_of}
use Rattle.form.specs.Forming.{stops_block, or_fallback}
use Rattle.decode.specs.declared.Recorded.{Recorded}
use Rattle.std.specs.Prelude.{Option, Some, None}

-- what a record that was put tells
pub record Taking (d : Option Op) (len place at : ℕ) (s t : List ℕ) (n ilen : ℕ) : Type 0 where
  pub op : Op
  pub is : d ≡ Some op
  pub number : n ≡ (op_fields op).op
  pub long : len ≡ ilen
  pub wrote : t ≡ patch s place (op_record op ilen at)

module _ (len place at : ℕ) (s : List ℕ) {t : List ℕ} {p : Option Recorded} where
  -- the record's two numbers are those of the op that was decoded
  told_is : (op : Op) {r : Recorded} → p ≡ Some r → (p, t) ≡ put_of (Some op) len place at s → r ≡ record { op = (op_fields op).op; ilen = len }
  told_is op told e = let same : p ≡ Some (record { op = (op_fields op).op; ilen = len }) = ap (λ (o : Option Recorded × List ℕ). o.0) e in cc

  pub took : (d : Option Op) {r : Recorded} → p ≡ Some r → (p, t) ≡ put_of d len place at s → Taking d len place at s t r.op r.ilen
  took (Some op) told e =
      let same = told_is op told e in
      let long = ap (λ (r : Recorded). r.ilen) (sym same) in
      record {
        op = op;
        is = refl;
        number = ap (λ (r : Recorded). r.op) same;
        long = long;
        wrote = ap (λ (o : Option Recorded × List ℕ). o.1) e ∙ ap (λ (k : ℕ). patch s place (op_record op k at)) long;
      }
  took None told e =
      let same : p ≡ None = ap (λ (o : Option Recorded × List ℕ). o.0) e in
      record { op = Fallback 0; is = cc; number = cc; long = cc; wrote = cc }

  pub stopped : (d : Option Op) → p ≡ None → (p, t) ≡ put_of d len place at s → (d ≡ None) × (t ≡ s)
  stopped None told e = (refl, ap (λ (o : Option Recorded × List ℕ). o.1) e)
  stopped (Some op) told e =
      let same : p ≡ Some (record { op = (op_fields op).op; ilen = len }) = ap (λ (o : Option Recorded × List ℕ). o.0) e in
      (cc, cc)

  -- an op that was decoded is kept, whatever is made of none
  pub kept : (f : Option Op → Option Op) → ((op : Op) → f (Some op) ≡ Some op) → (d : Option Op) {r : Recorded} → p ≡ Some r → (p, t) ≡ put_of d len place at s
      → (Some (record { op = r.op; ilen = len }), t) ≡ put_of (f d) len place at s
  kept f same (Some op) {r} told e =
      let number = ap (λ (r : Recorded). r.op) (told_is op told e) in
      rw (same op, number) (ap (λ (o : Option Recorded × List ℕ). (Some (record { op = (op_fields op).op; ilen = len }), o.1)) e)
  kept f same None told e = let put : p ≡ None = ap (λ (o : Option Recorded × List ℕ). o.0) e in cc

module _ (place at : ℕ) (s : List ℕ) {t : List ℕ} (raw : ℕ) (d : Option Op) (h : (d ≡ None) × (t ≡ s)) where
  pub word_stopped : stops_block raw ≡ true → (None, t) ≡ put_of (or_fallback raw d) 4 place at s
  word_stopped e = rw (h.0, h.1, e)

  pub word_fallback : {u : List ℕ} → stops_block raw ≡ false → u ≡ patch t place (op_record (Fallback raw) 4 at)
      → (Some (record { op = 9; ilen = 4 }), u) ≡ put_of (or_fallback raw d) 4 place at s
  word_fallback e wrote = rw (wrote, h.0, h.1, e)
