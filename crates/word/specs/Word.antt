-- What the Rust reads a word as: `decode_full` of block.rs, as tables of its `match` arms.
-- Assumes nothing.
use Rattle.std.specs.Prelude.{ℕ, ◌+◌, ◌*◌, ◌/◌, ◌%◌, List, [], ◌∷◌, pos, Option, Some, None, option_map}
use Rattle.bits.specs.Match.{Row, ◌⇒◌, case}
use Rattle.op.specs.declared.Op.{Op}
use Rattle.op.specs.declared.BranchKind.TheVariants.{Beq, Bne, Blt, Bge, Bltu, Bgeu}
use Rattle.op.specs.declared.LoadKind.TheVariants.{Lb, Lbu, Lh, Lhu, Lw, Lwu, Ld}
use Rattle.op.specs.declared.StoreKind.TheVariants.{Sb, Sh, Sw, Sd}
use Rattle.op.specs.declared.AluKind.TheVariants.{Add, Sub, Sll, Slt, Sltu, Xor, Srl, Sra, Or, And, Addw, Subw, Sllw, Srlw, Sraw, Mul, Mulh, Mulhsu, Mulhu, Div, Divu, Rem, Remu, Mulw, Divw, Divuw, Remw, Remuw, Andn, Orn, Xnor, Rol, Ror, Rolw, Rorw, Min, Max, Minu, Maxu, Clz, Ctz, Cpop, Clzw, Ctzw, Cpopw, SextB, SextH, ZextH, Rev8, OrcB, Sh1add, Sh2add, Sh3add, AddUw, Sh1addUw, Sh2addUw, Sh3addUw, SlliUw}
use Rattle.word.specs.Instruction.{opcode, rd, rs1, rs2, funct3, funct7, shamt6, shamt5, imm_i, imm_s, imm_b, imm_u, imm_j}
use Rattle.word.specs.declared.Form.{Form}
use Rattle.word.specs.declared.Form.TheVariants.{Lui, Auipc, Jal, Jalr, Branch, Load, Store, Imm, Shift6, Shift5, Unary, Reg}

abbrev pub branch_rows : List (Row (Option Form))
branch_rows =
    (0 ⇒ Some (Branch Beq)) ∷ (1 ⇒ Some (Branch Bne)) ∷ (4 ⇒ Some (Branch Blt)) ∷ (5 ⇒ Some (Branch Bge)) ∷ (6 ⇒ Some (Branch Bltu)) ∷ (7 ⇒ Some (Branch Bgeu))
    ∷ []

abbrev pub load_rows : List (Row (Option Form))
load_rows =
    (0 ⇒ Some (Load Lb)) ∷ (1 ⇒ Some (Load Lh)) ∷ (2 ⇒ Some (Load Lw)) ∷ (3 ⇒ Some (Load Ld)) ∷ (4 ⇒ Some (Load Lbu)) ∷ (5 ⇒ Some (Load Lhu)) ∷ (6 ⇒ Some (Load Lwu))
    ∷ []

abbrev pub store_rows : List (Row (Option Form))
store_rows =
    (0 ⇒ Some (Store Sb)) ∷ (1 ⇒ Some (Store Sh)) ∷ (2 ⇒ Some (Store Sw)) ∷ (3 ⇒ Some (Store Sd))
    ∷ []

abbrev pub count_rows : List (Row (Option Form))
count_rows = (0 ⇒ Some (Unary Clz)) ∷ (1 ⇒ Some (Unary Ctz)) ∷ (2 ⇒ Some (Unary Cpop)) ∷ []

abbrev pub sext_rows : List (Row (Option Form))
sext_rows = (2 ⇒ Some (Unary SextB)) ∷ (4 ⇒ Some (Unary SextH)) ∷ []

-- opcode 0x13, funct3 1, by funct7 >> 1
abbrev pub left_rows : ℕ → List (Row (Option Form))
left_rows shamt = (0x00 ⇒ Some (Shift6 Sll)) ∷ (0x18 ⇒ case shamt count_rows None) ∷ (0x1a ⇒ case shamt sext_rows None) ∷ []

abbrev pub orc_rows : List (Row (Option Form))
orc_rows = (7 ⇒ Some (Unary OrcB)) ∷ []

abbrev pub rev_rows : List (Row (Option Form))
rev_rows = (24 ⇒ Some (Unary Rev8)) ∷ (8 ⇒ Some (Unary Rev8)) ∷ []

-- opcode 0x13, funct3 5, by funct7 >> 1
abbrev pub right_rows : ℕ → List (Row (Option Form))
right_rows shamt =
    (0x00 ⇒ Some (Shift6 Srl))
    ∷ (0x10 ⇒ Some (Shift6 Sra))
    ∷ (0x14 ⇒ case shamt orc_rows None)
    ∷ (0x35 ⇒ case shamt rev_rows None)
    ∷ (0x18 ⇒ Some (Shift6 Ror))
    ∷ []

abbrev pub imm_rows : ℕ → ℕ → List (Row (Option Form))
imm_rows funct6 shamt =
    (0 ⇒ Some (Imm Add))
    ∷ (1 ⇒ case funct6 (left_rows shamt) None)
    ∷ (2 ⇒ Some (Imm Slt))
    ∷ (3 ⇒ Some (Imm Sltu))
    ∷ (4 ⇒ Some (Imm Xor))
    ∷ (5 ⇒ case funct6 (right_rows shamt) None)
    ∷ (6 ⇒ Some (Imm Or))
    ∷ (7 ⇒ Some (Imm And))
    ∷ []

abbrev pub count32_rows : List (Row (Option Form))
count32_rows = (0 ⇒ Some (Unary Clzw)) ∷ (1 ⇒ Some (Unary Ctzw)) ∷ (2 ⇒ Some (Unary Cpopw)) ∷ []

abbrev pub left32_rows : ℕ → List (Row (Option Form))
left32_rows shamt =
    (0x04 ⇒ Some (Shift6 SlliUw)) ∷ (0x05 ⇒ Some (Shift6 SlliUw)) ∷ (0x00 ⇒ Some (Shift5 Sllw)) ∷ (0x30 ⇒ case shamt count32_rows None)
    ∷ []

abbrev pub right32_rows : List (Row (Option Form))
right32_rows = (0x00 ⇒ Some (Shift5 Srlw)) ∷ (0x20 ⇒ Some (Shift5 Sraw)) ∷ (0x30 ⇒ Some (Shift5 Rorw)) ∷ []

abbrev pub imm32_rows : ℕ → ℕ → List (Row (Option Form))
imm32_rows funct7 shamt =
    (0 ⇒ Some (Imm Addw)) ∷ (1 ⇒ case funct7 (left32_rows shamt) None) ∷ (5 ⇒ case funct7 right32_rows None)
    ∷ []

-- the key has funct3 and then funct7, in hexadecimal: 0x520 is the Rust's (0x5, 0x20)
abbrev pub reg_rows : List (Row (Option Form))
reg_rows =
    (0x000 ⇒ Some (Reg Add)) ∷ (0x020 ⇒ Some (Reg Sub)) ∷ (0x100 ⇒ Some (Reg Sll)) ∷ (0x200 ⇒ Some (Reg Slt)) ∷ (0x300 ⇒ Some (Reg Sltu))
    ∷ (0x400 ⇒ Some (Reg Xor)) ∷ (0x500 ⇒ Some (Reg Srl)) ∷ (0x520 ⇒ Some (Reg Sra)) ∷ (0x600 ⇒ Some (Reg Or)) ∷ (0x700 ⇒ Some (Reg And))
    ∷ (0x001 ⇒ Some (Reg Mul)) ∷ (0x101 ⇒ Some (Reg Mulh)) ∷ (0x201 ⇒ Some (Reg Mulhsu)) ∷ (0x301 ⇒ Some (Reg Mulhu))
    ∷ (0x401 ⇒ Some (Reg Div)) ∷ (0x501 ⇒ Some (Reg Divu)) ∷ (0x601 ⇒ Some (Reg Rem)) ∷ (0x701 ⇒ Some (Reg Remu))
    ∷ (0x420 ⇒ Some (Reg Xnor)) ∷ (0x620 ⇒ Some (Reg Orn)) ∷ (0x720 ⇒ Some (Reg Andn)) ∷ (0x130 ⇒ Some (Reg Rol)) ∷ (0x530 ⇒ Some (Reg Ror))
    ∷ (0x405 ⇒ Some (Reg Min)) ∷ (0x505 ⇒ Some (Reg Max)) ∷ (0x605 ⇒ Some (Reg Minu)) ∷ (0x705 ⇒ Some (Reg Maxu))
    ∷ (0x210 ⇒ Some (Reg Sh1add)) ∷ (0x410 ⇒ Some (Reg Sh2add)) ∷ (0x610 ⇒ Some (Reg Sh3add))
    ∷ []

abbrev pub zext_rows : List (Row (Option Form))
zext_rows = (0 ⇒ Some (Reg ZextH)) ∷ []

abbrev pub reg32_rows : ℕ → List (Row (Option Form))
reg32_rows rs2 =
    (0x000 ⇒ Some (Reg Addw)) ∷ (0x020 ⇒ Some (Reg Subw)) ∷ (0x100 ⇒ Some (Reg Sllw)) ∷ (0x500 ⇒ Some (Reg Srlw)) ∷ (0x520 ⇒ Some (Reg Sraw))
    ∷ (0x001 ⇒ Some (Reg Mulw)) ∷ (0x401 ⇒ Some (Reg Divw)) ∷ (0x501 ⇒ Some (Reg Divuw)) ∷ (0x601 ⇒ Some (Reg Remw)) ∷ (0x701 ⇒ Some (Reg Remuw))
    ∷ (0x130 ⇒ Some (Reg Rolw)) ∷ (0x530 ⇒ Some (Reg Rorw)) ∷ (0x404 ⇒ case rs2 zext_rows None)
    ∷ (0x004 ⇒ Some (Reg AddUw)) ∷ (0x210 ⇒ Some (Reg Sh1addUw)) ∷ (0x410 ⇒ Some (Reg Sh2addUw)) ∷ (0x610 ⇒ Some (Reg Sh3addUw))
    ∷ []

abbrev pub jalr_rows : List (Row (Option Form))
jalr_rows = (0 ⇒ Some Jalr) ∷ []

abbrev pub opcode_rows : ℕ → ℕ → ℕ → List (Row (Option Form))
opcode_rows funct3 funct7 rs2 =
    (0x37 ⇒ Some Lui)
    ∷ (0x17 ⇒ Some Auipc)
    ∷ (0x6f ⇒ Some Jal)
    ∷ (0x67 ⇒ case funct3 jalr_rows None)
    ∷ (0x63 ⇒ case funct3 branch_rows None)
    ∷ (0x03 ⇒ case funct3 load_rows None)
    ∷ (0x23 ⇒ case funct3 store_rows None)
    ∷ (0x13 ⇒ case funct3 (imm_rows (funct7 / 2) (funct7 % 2 * 32 + rs2)) None)
    ∷ (0x1b ⇒ case funct3 (imm32_rows funct7 rs2) None)
    ∷ (0x33 ⇒ case (funct3 * 0x100 + funct7) reg_rows None)
    ∷ (0x3b ⇒ case (funct3 * 0x100 + funct7) (reg32_rows rs2) None)
    ∷ []

unfoldable pub form_by : ℕ → ℕ → ℕ → ℕ → Option Form
form_by op funct3 funct7 rs2 = case op (opcode_rows funct3 funct7 rs2) None

abbrev pub form_of : ℕ → Option Form
form_of w = form_by (opcode w) (funct3 w) (funct7 w) (rs2 w)

abbrev pub op_of : ℕ → Form → Op
op_of w Lui = Op.Lui (rd w) (imm_u w)
op_of w Auipc = Op.Auipc (rd w) (imm_u w)
op_of w Jal = Op.Jal (rd w) (imm_j w)
op_of w Jalr = Op.Jalr (rd w) (rs1 w) (imm_i w)
op_of w (Branch k) = Op.Branch k (rs1 w) (rs2 w) (imm_b w)
op_of w (Load k) = Op.Load k (rd w) (rs1 w) (imm_i w)
op_of w (Store k) = Op.Store k (rs1 w) (rs2 w) (imm_s w)
op_of w (Imm k) = Op.AluImm k (rd w) (rs1 w) (imm_i w)
op_of w (Shift6 k) = Op.AluImm k (rd w) (rs1 w) (pos (shamt6 w))
op_of w (Shift5 k) = Op.AluImm k (rd w) (rs1 w) (pos (shamt5 w))
op_of w (Unary k) = Op.AluImm k (rd w) (rs1 w) (pos 0)
op_of w (Reg k) = Op.AluReg k (rd w) (rs1 w) (rs2 w)

abbrev pub rust_word : ℕ → Option Op
rust_word w = option_map (op_of w) (form_of w)
