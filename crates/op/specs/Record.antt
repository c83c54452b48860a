-- An op as a record of sixteen bytes (docs/FORMATS.md, The op record). A field that the op lacks is 0.
-- Assumes nothing.
use Rattle.std.specs.Prelude.{List, ◌∷◌, ◌++◌, ℕ, suc, ◌-◌, ◌^◌, ℤ, pos, negsuc}
use Rattle.bits.specs.Bytes.{le}
use Rattle.op.specs.Kinds.{alu_number, load_number, store_number, branch_number}
use Rattle.op.specs.declared.OpRecord.{OpRecord}
use Rattle.op.specs.declared.Op.{Op}
use Rattle.op.specs.declared.Op.TheVariants.{Lui, Auipc, AluImm, AluReg, Load, Store, Branch, Jal, Jalr, Fallback}

-- two's complement in 64 bits; `negsuc n` is -(n + 1)
abbrev pub bits64 : ℤ → ℕ
bits64 (pos n) = n
bits64 (negsuc n) = 2 ^ 64 - suc n

-- the op numbers that other rules name: the two jumps, and Fallback, which is the last
abbrev pub jal_number : ℕ
jal_number = 7

abbrev pub jalr_number : ℕ
jalr_number = 8

abbrev pub fallback_number : ℕ
fallback_number = 9

abbrev pub fields : ℕ → ℕ → ℕ → ℕ → ℕ → ℕ → OpRecord
fields op kind rd rs1 rs2 imm = record { op = op; kind = kind; rd = rd; rs1 = rs1; rs2 = rs2; imm = imm }

-- op number, kind, rd, rs1, rs2, immediate
abbrev pub op_fields : Op → OpRecord
op_fields (Lui rd imm) = fields 0 0 rd 0 0 (bits64 imm)
op_fields (Auipc rd imm) = fields 1 0 rd 0 0 (bits64 imm)
op_fields (AluImm kind rd rs1 imm) = fields 2 (alu_number kind) rd rs1 0 (bits64 imm)
op_fields (AluReg kind rd rs1 rs2) = fields 3 (alu_number kind) rd rs1 rs2 0
op_fields (Load kind rd rs1 imm) = fields 4 (load_number kind) rd rs1 0 (bits64 imm)
op_fields (Store kind rs1 rs2 imm) = fields 5 (store_number kind) 0 rs1 rs2 (bits64 imm)
op_fields (Branch kind rs1 rs2 offset) = fields 6 (branch_number kind) 0 rs1 rs2 (bits64 offset)
op_fields (Jal rd offset) = fields jal_number 0 rd 0 0 (bits64 offset)
op_fields (Jalr rd rs1 imm) = fields jalr_number 0 rd rs1 0 (bits64 imm)
op_fields (Fallback raw) = fields fallback_number 0 0 0 0 raw

abbrev pub op_bytes : OpRecord → ℕ → ℕ → List ℕ
op_bytes f ilen pcOff = f.op ∷ f.kind ∷ f.rd ∷ f.rs1 ∷ f.rs2 ∷ ilen ∷ (le 2 pcOff ++ le 8 f.imm)

abbrev pub op_record : Op → ℕ → ℕ → List ℕ
op_record op ilen pcOff = op_bytes (op_fields op) ilen pcOff
