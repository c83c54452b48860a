-- Words: the manual's instruction listings, one row for each instruction, by opcode.
-- Reserved encodings, and instructions that have no op (FENCE, ECALL, EBREAK and whatever is not listed here), have none.
-- Assumes nothing.
use Rattle.std.specs.Prelude.{ℕ, ◌/◌, Bool, true, cond, ◌&&◌, List, [], ◌∷◌, eqb, pos, Option, Some, None}
use Rattle.bits.specs.Bits.{signed}
use Rattle.bits.specs.Match.{◌⇒◌, case}
use Rattle.op.specs.declared.AluKind.{AluKind}
use Rattle.op.specs.declared.LoadKind.{LoadKind}
use Rattle.op.specs.declared.StoreKind.{StoreKind}
use Rattle.op.specs.declared.BranchKind.{BranchKind}
use Rattle.op.specs.declared.BranchKind.TheVariants.{Beq, Bne, Blt, Bge, Bltu, Bgeu}
use Rattle.op.specs.declared.LoadKind.TheVariants.{Lb, Lbu, Lh, Lhu, Lw, Lwu, Ld}
use Rattle.op.specs.declared.StoreKind.TheVariants.{Sb, Sh, Sw, Sd}
use Rattle.op.specs.declared.AluKind.TheVariants.{Add, Sub, Sll, Slt, Sltu, Xor, Srl, Sra, Or, And, Addw, Subw, Sllw, Srlw, Sraw, Mul, Mulh, Mulhsu, Mulhu, Div, Divu, Rem, Remu, Mulw, Divw, Divuw, Remw, Remuw, Andn, Orn, Xnor, Rol, Ror, Rolw, Rorw, Min, Max, Minu, Maxu, Clz, Ctz, Cpop, Clzw, Ctzw, Cpopw, SextB, SextH, ZextH, Rev8, OrcB, Sh1add, Sh2add, Sh3add, AddUw, Sh1addUw, Sh2addUw, Sh3addUw, SlliUw}
use Rattle.op.specs.declared.Op.TheVariants.{Lui, Auipc, AluImm, AluReg, Load, Store, Branch, Jal, Jalr}
use Rattle.manual.specs.Figures.{slice, imm, skip, figure}
use Rattle.op.specs.declared.Op.{Op}

-- the format of an instruction's operands, with the op that it makes. I6 and I5 have a shift amount of six or five bits in place of
-- the immediate, and I0 has none: all twelve bits belong to the opcode. NoRow where no row of the listings fits
pub data Format : Type 0 where
  NoRow LUI AUIPC JAL JALR : Format
  B : BranchKind → Format
  L : LoadKind → Format
  S : StoreKind → Format
  I I6 I5 I0 R : AluKind → Format

-- bits 31 to 20: any, where an immediate stands there, or fixed as the listing's columns fix them
pub data Top : Type 0 where
  any : Top
  funct7 funct6 : ℕ → Top
  funct12 : ℕ → ℕ → Top

abbrev pub fits : Top → ℕ → ℕ → Bool
fits any b31-25 b24-20 = true
fits (funct7 n) b31-25 b24-20 = eqb b31-25 n
fits (funct6 n) b31-25 b24-20 = eqb (b31-25 / 2) n
fits (funct12 m n) b31-25 b24-20 = eqb b31-25 m && eqb b24-20 n

-- a row: bits 31 to 20, funct3, and what they make
pub data Line : Type 0 where
  ◌∣◌⟹◌ : Top → ℕ → Format → Line

infix 5 ◌∣◌⟹◌
abbrev pub find : List Line → ℕ → ℕ → ℕ → Format
find [] funct3 b31-25 b24-20 = NoRow
find ((top ∣ k ⟹ format) ∷ lines) funct3 b31-25 b24-20 =
    cond (eqb funct3 k && fits top b31-25 b24-20) format (find lines funct3 b31-25 b24-20)

abbrev pub branch : List Line
branch =
    (any ∣ 0b000 ⟹ B Beq) ∷ (any ∣ 0b001 ⟹ B Bne) ∷ (any ∣ 0b100 ⟹ B Blt)
    ∷ (any ∣ 0b101 ⟹ B Bge) ∷ (any ∣ 0b110 ⟹ B Bltu) ∷ (any ∣ 0b111 ⟹ B Bgeu)
    ∷ []

abbrev pub load : List Line
load =
    (any ∣ 0b000 ⟹ L Lb) ∷ (any ∣ 0b001 ⟹ L Lh) ∷ (any ∣ 0b010 ⟹ L Lw) ∷ (any ∣ 0b100 ⟹ L Lbu) ∷ (any ∣ 0b101 ⟹ L Lhu)
    ∷ (any ∣ 0b110 ⟹ L Lwu) ∷ (any ∣ 0b011 ⟹ L Ld)
    ∷ []

abbrev pub store : List Line
store =
    (any ∣ 0b000 ⟹ S Sb) ∷ (any ∣ 0b001 ⟹ S Sh) ∷ (any ∣ 0b010 ⟹ S Sw) ∷ (any ∣ 0b011 ⟹ S Sd)
    ∷ []

abbrev pub jalr : List Line
jalr = (any ∣ 0b000 ⟹ JALR) ∷ []

-- RV64I, then Zbb
abbrev pub op_imm : List Line
op_imm =
    (any ∣ 0b000 ⟹ I Add) ∷ (any ∣ 0b010 ⟹ I Slt) ∷ (any ∣ 0b011 ⟹ I Sltu)
    ∷ (any ∣ 0b100 ⟹ I Xor) ∷ (any ∣ 0b110 ⟹ I Or) ∷ (any ∣ 0b111 ⟹ I And)
    ∷ (funct6 0b000000 ∣ 0b001 ⟹ I6 Sll) ∷ (funct6 0b000000 ∣ 0b101 ⟹ I6 Srl) ∷ (funct6 0b010000 ∣ 0b101 ⟹ I6 Sra)
    ∷ (funct12 0b0110000 0b00000 ∣ 0b001 ⟹ I0 Clz)
    ∷ (funct12 0b0110000 0b00001 ∣ 0b001 ⟹ I0 Ctz)
    ∷ (funct12 0b0110000 0b00010 ∣ 0b001 ⟹ I0 Cpop)
    ∷ (funct12 0b0110000 0b00100 ∣ 0b001 ⟹ I0 SextB)
    ∷ (funct12 0b0110000 0b00101 ∣ 0b001 ⟹ I0 SextH)
    ∷ (funct6 0b011000 ∣ 0b101 ⟹ I6 Ror)
    ∷ (funct12 0b0010100 0b00111 ∣ 0b101 ⟹ I0 OrcB)
    ∷ (funct12 0b0110101 0b11000 ∣ 0b101 ⟹ I0 Rev8)
    ∷ []

-- RV64I, then Zba, then Zbb
abbrev pub op_imm_32 : List Line
op_imm_32 =
    (any ∣ 0b000 ⟹ I Addw)
    ∷ (funct7 0b0000000 ∣ 0b001 ⟹ I5 Sllw) ∷ (funct7 0b0000000 ∣ 0b101 ⟹ I5 Srlw) ∷ (funct7 0b0100000 ∣ 0b101 ⟹ I5 Sraw)
    ∷ (funct6 0b000010 ∣ 0b001 ⟹ I6 SlliUw)
    ∷ (funct12 0b0110000 0b00000 ∣ 0b001 ⟹ I0 Clzw)
    ∷ (funct12 0b0110000 0b00001 ∣ 0b001 ⟹ I0 Ctzw)
    ∷ (funct12 0b0110000 0b00010 ∣ 0b001 ⟹ I0 Cpopw)
    ∷ (funct7 0b0110000 ∣ 0b101 ⟹ I5 Rorw)
    ∷ []

-- RV32I, RV32M, Zba, Zbb
abbrev pub op_op : List Line
op_op =
    (funct7 0b0000000 ∣ 0b000 ⟹ R Add) ∷ (funct7 0b0100000 ∣ 0b000 ⟹ R Sub)
    ∷ (funct7 0b0000000 ∣ 0b001 ⟹ R Sll) ∷ (funct7 0b0000000 ∣ 0b010 ⟹ R Slt) ∷ (funct7 0b0000000 ∣ 0b011 ⟹ R Sltu)
    ∷ (funct7 0b0000000 ∣ 0b100 ⟹ R Xor) ∷ (funct7 0b0000000 ∣ 0b101 ⟹ R Srl) ∷ (funct7 0b0100000 ∣ 0b101 ⟹ R Sra)
    ∷ (funct7 0b0000000 ∣ 0b110 ⟹ R Or) ∷ (funct7 0b0000000 ∣ 0b111 ⟹ R And)
    ∷ (funct7 0b0000001 ∣ 0b000 ⟹ R Mul) ∷ (funct7 0b0000001 ∣ 0b001 ⟹ R Mulh)
    ∷ (funct7 0b0000001 ∣ 0b010 ⟹ R Mulhsu) ∷ (funct7 0b0000001 ∣ 0b011 ⟹ R Mulhu)
    ∷ (funct7 0b0000001 ∣ 0b100 ⟹ R Div) ∷ (funct7 0b0000001 ∣ 0b101 ⟹ R Divu)
    ∷ (funct7 0b0000001 ∣ 0b110 ⟹ R Rem) ∷ (funct7 0b0000001 ∣ 0b111 ⟹ R Remu)
    ∷ (funct7 0b0010000 ∣ 0b010 ⟹ R Sh1add) ∷ (funct7 0b0010000 ∣ 0b100 ⟹ R Sh2add) ∷ (funct7 0b0010000 ∣ 0b110 ⟹ R Sh3add)
    ∷ (funct7 0b0100000 ∣ 0b111 ⟹ R Andn) ∷ (funct7 0b0100000 ∣ 0b110 ⟹ R Orn) ∷ (funct7 0b0100000 ∣ 0b100 ⟹ R Xnor)
    ∷ (funct7 0b0000101 ∣ 0b110 ⟹ R Max) ∷ (funct7 0b0000101 ∣ 0b111 ⟹ R Maxu)
    ∷ (funct7 0b0000101 ∣ 0b100 ⟹ R Min) ∷ (funct7 0b0000101 ∣ 0b101 ⟹ R Minu)
    ∷ (funct7 0b0110000 ∣ 0b001 ⟹ R Rol) ∷ (funct7 0b0110000 ∣ 0b101 ⟹ R Ror)
    ∷ []

-- RV64I, RV64M, Zba, Zbb
abbrev pub op_32 : List Line
op_32 =
    (funct7 0b0000000 ∣ 0b000 ⟹ R Addw) ∷ (funct7 0b0100000 ∣ 0b000 ⟹ R Subw)
    ∷ (funct7 0b0000000 ∣ 0b001 ⟹ R Sllw) ∷ (funct7 0b0000000 ∣ 0b101 ⟹ R Srlw) ∷ (funct7 0b0100000 ∣ 0b101 ⟹ R Sraw)
    ∷ (funct7 0b0000001 ∣ 0b000 ⟹ R Mulw) ∷ (funct7 0b0000001 ∣ 0b100 ⟹ R Divw) ∷ (funct7 0b0000001 ∣ 0b101 ⟹ R Divuw)
    ∷ (funct7 0b0000001 ∣ 0b110 ⟹ R Remw) ∷ (funct7 0b0000001 ∣ 0b111 ⟹ R Remuw)
    ∷ (funct7 0b0000100 ∣ 0b000 ⟹ R AddUw) ∷ (funct7 0b0010000 ∣ 0b010 ⟹ R Sh1addUw)
    ∷ (funct7 0b0010000 ∣ 0b100 ⟹ R Sh2addUw) ∷ (funct7 0b0010000 ∣ 0b110 ⟹ R Sh3addUw)
    ∷ (funct12 0b0000100 0b00000 ∣ 0b100 ⟹ R ZextH)
    ∷ (funct7 0b0110000 ∣ 0b001 ⟹ R Rolw) ∷ (funct7 0b0110000 ∣ 0b101 ⟹ R Rorw)
    ∷ []

-- the opcode map
unfoldable pub format_by : ℕ → ℕ → ℕ → ℕ → Format
format_by opcode funct3 b31-25 b24-20 =
    case opcode
    ((0b0000011 ⇒ find load funct3 b31-25 b24-20)
    ∷ (0b0010011 ⇒ find op_imm funct3 b31-25 b24-20)
    ∷ (0b0010111 ⇒ AUIPC)
    ∷ (0b0011011 ⇒ find op_imm_32 funct3 b31-25 b24-20)
    ∷ (0b0100011 ⇒ find store funct3 b31-25 b24-20)
    ∷ (0b0110011 ⇒ find op_op funct3 b31-25 b24-20)
    ∷ (0b0110111 ⇒ LUI)
    ∷ (0b0111011 ⇒ find op_32 funct3 b31-25 b24-20)
    ∷ (0b1100011 ⇒ find branch funct3 b31-25 b24-20)
    ∷ (0b1100111 ⇒ find jalr funct3 b31-25 b24-20)
    ∷ (0b1101111 ⇒ JAL)
    ∷ [])
    NoRow

abbrev pub format_of : ℕ → Format
format_of w = format_by (slice w 6 0) (slice w 14 12) (slice w 31 25) (slice w 24 20)

abbrev pub rd : ℕ → ℕ
rd w = slice w 11 7

abbrev pub rs1 : ℕ → ℕ
rs1 w = slice w 19 15

abbrev pub rs2 : ℕ → ℕ
rs2 w = slice w 24 20

-- the immediates of the formats I, S, B, U and J, each as its figure shows it
abbrev pub imm_i : ℕ → ℕ
imm_i w = figure w 32 (imm 11 0 ∷ skip 5 ∷ skip 3 ∷ skip 5 ∷ skip 7 ∷ [])

abbrev pub imm_s : ℕ → ℕ
imm_s w = figure w 32 (imm 11 5 ∷ skip 5 ∷ skip 5 ∷ skip 3 ∷ imm 4 0 ∷ skip 7 ∷ [])

abbrev pub imm_b : ℕ → ℕ
imm_b w = figure w 32 (imm 12 12 ∷ imm 10 5 ∷ skip 5 ∷ skip 5 ∷ skip 3 ∷ imm 4 1 ∷ imm 11 11 ∷ skip 7 ∷ [])

abbrev pub imm_u : ℕ → ℕ
imm_u w = figure w 32 (imm 31 12 ∷ skip 5 ∷ skip 7 ∷ [])

abbrev pub imm_j : ℕ → ℕ
imm_j w = figure w 32 (imm 20 20 ∷ imm 10 1 ∷ imm 11 11 ∷ imm 19 12 ∷ skip 5 ∷ skip 7 ∷ [])

abbrev pub op_of : ℕ → Format → Option Op
op_of w NoRow = None
op_of w LUI = Some (Lui (rd w) (signed 32 (imm_u w)))
op_of w AUIPC = Some (Auipc (rd w) (signed 32 (imm_u w)))
op_of w JAL = Some (Jal (rd w) (signed 21 (imm_j w)))
op_of w JALR = Some (Jalr (rd w) (rs1 w) (signed 12 (imm_i w)))
op_of w (B k) = Some (Branch k (rs1 w) (rs2 w) (signed 13 (imm_b w)))
op_of w (L k) = Some (Load k (rd w) (rs1 w) (signed 12 (imm_i w)))
op_of w (S k) = Some (Store k (rs1 w) (rs2 w) (signed 12 (imm_s w)))
op_of w (I k) = Some (AluImm k (rd w) (rs1 w) (signed 12 (imm_i w)))
op_of w (I6 k) = Some (AluImm k (rd w) (rs1 w) (pos (slice w 25 20)))
op_of w (I5 k) = Some (AluImm k (rd w) (rs1 w) (pos (slice w 24 20)))
op_of w (I0 k) = Some (AluImm k (rd w) (rs1 w) (pos 0))
op_of w (R k) = Some (AluReg k (rd w) (rs1 w) (rs2 w))

abbrev pub manual_word : ℕ → Option Op
manual_word w = op_of w (format_of w)
