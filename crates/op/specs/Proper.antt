-- An op that a record can hold: its registers are at most 31, and a Fallback's raw is a word.
-- Assumes nothing.
use Rattle.std.specs.Prelude.{◌^◌, ◌≤◌, ◌<◌, cond, eqb}
use Rattle.op.specs.Record.{fallback_number, op_fields}
use Rattle.op.specs.declared.Op.{Op}

abbrev pub Proper : Op → Type 0
Proper op = ((op_fields op).rd ≤ 31) × ((op_fields op).rs1 ≤ 31) × ((op_fields op).rs2 ≤ 31) × (cond (eqb (op_fields op).op fallback_number) (op_fields op).imm 0 < 2 ^ 32)
