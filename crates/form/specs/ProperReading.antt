-- A reading whose blocks are well formed.
-- Assumes nothing.
use Rattle.std.specs.Prelude.{◌≡◌, false, ℕ, eqb, Some}
use Rattle.op.specs.Reading.{Reading}
use Rattle.op.specs.Record.{fallback_number, op_fields}
use Rattle.op.specs.declared.Op.{Op}
use Rattle.op.specs.Proper.{Proper}

-- it gives proper ops, and never a Fallback
pub record ProperReading (r : Reading) : Type 0 where
  pub words : (w : ℕ) (op : Op) → r.of_word w ≡ Some op → (eqb (op_fields op).op fallback_number ≡ false) × Proper op
  pub halves : (w : ℕ) (op : Op) → r.of_half w ≡ Some op → (eqb (op_fields op).op fallback_number ≡ false) × Proper op
