-- What a decoder's answer is never: a Fallback, which its op number tells, or an op with a register above 31.
-- Assumes nothing.
use mathlib.Core.Path.{◌≡◌, refl, sym, ap, subst, ◌∙◌}
use mathlib.Core.Bool.{false, false≢true}
use Prim.Native.Nat.{ℕ}
use lib.Dec.{eqb}
use Rattle.op.specs.Record.{fallback_number, op_fields}
use Rattle.op.specs.Proper.{Proper}
use Rattle.op.specs.declared.Op.{Op}
use Rattle.op.specs.declared.Op.TheVariants.{Fallback}
use Rattle.std.specs.Prelude.{Option, Some, None}

abbrev pub number : Option Op → ℕ
number None = 0
number (Some op) = (op_fields op).op

abbrev ProperIn : Option Op → Type 0
ProperIn None = Unit {0}
ProperIn (Some op) = Proper op

pub record Other (d : Option Op) : Type 0 where
  pub is : eqb (number d) fallback_number ≡ false
  pub proper : ProperIn d

pub no_fallback : (d : Option Op) (raw : ℕ) → Other d → d ≡ Some (Fallback raw) → ⊥
no_fallback d raw o e = false≢true (sym o.is ∙ ap (λ (x : Option Op). eqb (number x) fallback_number) e)

pub none : Other None
none = record { is = refl; proper = tt }

pub some : {op : Op} → eqb (op_fields op).op fallback_number ≡ false → Proper op → Other (Some op)
some h p = record { is = h; proper = p }

pub other_op : (d : Option Op) (op : Op) → Other d → d ≡ Some op → (eqb (op_fields op).op fallback_number ≡ false) × Proper op
other_op d op o e = (sym (ap (λ (x : Option Op). eqb (number x) fallback_number) e) ∙ o.is, subst ProperIn e o.proper)
