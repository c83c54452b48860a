-- A block as a record of 1,040 bytes: address, count of ops, byte_len, four zeros, 64 op records.
-- Assumes nothing.
use Rattle.std.specs.Prelude.{ℕ, ◌+◌, ◌-◌, ◌*◌, List, [], ◌∷◌, ◌++◌, length, replicate}
use Rattle.bits.specs.Bytes.{le}
use Rattle.op.specs.Record.{op_record}
use Rattle.op.specs.declared.Op.{Op}

-- an op of a block, with its length in bytes
pub data Insn : Type 0 where
  insn : Op → ℕ → Insn

-- the records of ops that stand one after the other from pc_off `at` on
unfoldable pub op_records : ℕ → List Insn → List ℕ
op_records at [] = []
op_records at (insn op ilen ∷ rest) = op_record op ilen at ++ op_records (at + ilen) rest

unfoldable pub byte_len : List Insn → ℕ
byte_len [] = 0
byte_len (insn op ilen ∷ rest) = ilen + byte_len rest

abbrev pub head_bytes : ℕ → ℕ → ℕ → List ℕ
head_bytes address count len = le 8 address ++ (le 2 count ++ (le 2 len ++ le 4 0))

unfoldable pub block_record : ℕ → List Insn → List ℕ
block_record address ops = head_bytes address (length ops) (byte_len ops) ++ (op_records 0 ops ++ replicate (1024 - 16 * length ops) 0)
