-- `op::OpRecord::bytes` meets its contract: each byte is a remainder of a quotient, and a quotient of quotients is one quotient.
use native.Mathlib.Nat.{div-div-eq-div-mul}
use Rattle.bits.specs.Bytes.{le}
use Rattle.op.proofs.OpRecord.bytes.Goals as goal

pub returns : goal.returns
unfolding le
returns c = rw (c.to_le_bytes-off.ensures, c.to_le_bytes-imm.ensures) (simp div-div-eq-div-mul)
