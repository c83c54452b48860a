-- Laws of an op's record.
-- Assumes nothing.
use mathlib.Core.Path.{◌≡◌}
use Prim.Native.Nat.{ℕ}
use lib.ListN.{length, length-append}
use Rattle.bits.proofs.Bytes.{length-le}
use Rattle.op.specs.Record.{op_record}
use Rattle.op.specs.declared.Op.{Op}

pub length_record : (op : Op) (ilen off : ℕ) → length (op_record op ilen off) ≡ 16
length_record op ilen off = simp (length-append, length-le)
