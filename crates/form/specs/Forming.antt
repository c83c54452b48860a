-- Forming, as `decode_block` of block.rs: the ops of a block, from the bytes from its address to the end of the page, in any reading.
-- Assumes nothing.
use Rattle.std.specs.Prelude.{ℕ, zero, suc, ◌+◌, ◌%◌, Bool, cond, ◌&&◌, ◌||◌, List, [], ◌∷◌, eqb, ltb, length, Option, Some, None}
use Rattle.bits.specs.Bytes.{halfword_at, word_at}
use Rattle.op.specs.Reading.{Reading}
use Rattle.op.specs.Record.{op_fields}
use Rattle.op.specs.declared.Op.TheVariants.{Fallback}
use Rattle.word.specs.Instruction.{opcode, funct3}
use Rattle.block.specs.Memory.{rest_of_page}
use Rattle.block.specs.Record.{Insn, insn}
use Rattle.block.specs.WellFormed.{jumps}
use Rattle.op.specs.declared.Op.{Op}

-- a word without an op stops the block where it is ECALL or of its kin, or FENCE.I; else it is a Fallback
abbrev pub stops_block : ℕ → Bool
stops_block raw = (eqb (opcode raw) 0x73 && eqb (funct3 raw) 0) || (eqb (opcode raw) 0x0f && eqb (funct3 raw) 1)

abbrev pub or_fallback : ℕ → Option Op → Option Op
or_fallback raw (Some op) = Some op
or_fallback raw None = cond (stops_block raw) None (Some (Fallback raw))

-- what stands at an offset of s, the bytes up to the end of the page: its length by its low bits, and its op, or none where the block stops
abbrev pub ilen_at : List ℕ → ℕ → ℕ
ilen_at s at = cond (eqb (halfword_at s at % 4) 3) 4 2

unfoldable pub op_at : Reading → List ℕ → ℕ → Option Op
op_at reading s at =
    cond (ltb (length s) (at + 2)) None
    (cond (eqb (ilen_at s at) 2) (reading.of_half (halfword_at s at))
    (cond (ltb (length s) (at + 4)) None (or_fallback (word_at s at) (reading.of_word (word_at s at)))))

-- an op, and the next ones unless it jumps
abbrev pub and_then : Option Op → ℕ → List Insn → List Insn
and_then None ilen next = []
and_then (Some op) ilen next = insn op ilen ∷ cond (jumps (op_fields op).op) [] next

-- at most n ops, from an offset on
unfoldable pub ops_from : Reading → List ℕ → ℕ → ℕ → List Insn
ops_from reading s zero at = []
ops_from reading s (suc n) at = and_then (op_at reading s at) (ilen_at s at) (ops_from reading s n (at + ilen_at s at))

-- the block at an address of a memory; none forms where it has no ops
abbrev pub formed : Reading → List ℕ → ℕ → ℕ → List Insn
formed reading memory base address = ops_from reading (rest_of_page memory base address) 64 0
