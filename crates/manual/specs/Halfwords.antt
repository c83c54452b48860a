-- Halfwords: the manual's listings of the C extension by quadrant, each row as the instruction that it expands into.
-- Reserved encodings and C.EBREAK have none, and neither have the floating-point loads and stores.
-- Assumes nothing.
use Rattle.std.specs.Prelude.{ℕ, ◌+◌, Bool, true, false, cond, List, [], ◌∷◌, eqb, pos, Option, Some, None}
use Rattle.bits.specs.Bits.{signed}
use Rattle.bits.specs.Match.{Row, ◌⇒◌, case}
use Rattle.op.specs.declared.AluKind.{AluKind}
use Rattle.op.specs.declared.AluKind.TheVariants.{Add, Sub, Xor, Or, And, Addw, Subw, Sll, Srl, Sra}
use Rattle.op.specs.declared.LoadKind.TheVariants.{Lw, Ld}
use Rattle.op.specs.declared.StoreKind.TheVariants.{Sw, Sd}
use Rattle.op.specs.declared.BranchKind.TheVariants.{Beq, Bne}
use Rattle.op.specs.declared.Op.{Op}
use Rattle.op.specs.declared.Op.TheVariants.{Lui, AluImm, AluReg, Load, Store, Branch, Jal, Jalr}
use Rattle.manual.specs.Figures.{slice, imm, skip, figure}

-- rd or rs1, and rs2; the three-bit fields name x8 to x15
abbrev pub rd : ℕ → ℕ
rd w = slice w 11 7

abbrev pub rs2 : ℕ → ℕ
rs2 w = slice w 6 2

abbrev pub rs1' : ℕ → ℕ
rs1' w = slice w 9 7 + 8

abbrev pub rs2' : ℕ → ℕ
rs2' w = slice w 4 2 + 8

-- the immediates, each as its row of the listing shows it
abbrev pub addi4spn : ℕ → ℕ
addi4spn w = figure w 16 (skip 3 ∷ imm 5 4 ∷ imm 9 6 ∷ imm 2 2 ∷ imm 3 3 ∷ skip 3 ∷ skip 2 ∷ [])

abbrev pub lw : ℕ → ℕ
lw w = figure w 16 (skip 3 ∷ imm 5 3 ∷ skip 3 ∷ imm 2 2 ∷ imm 6 6 ∷ skip 3 ∷ skip 2 ∷ [])

abbrev pub ld : ℕ → ℕ
ld w = figure w 16 (skip 3 ∷ imm 5 3 ∷ skip 3 ∷ imm 7 6 ∷ skip 3 ∷ skip 2 ∷ [])

abbrev pub imm6 : ℕ → ℕ
imm6 w = figure w 16 (skip 3 ∷ imm 5 5 ∷ skip 5 ∷ imm 4 0 ∷ skip 2 ∷ [])

abbrev pub addi16sp : ℕ → ℕ
addi16sp w = figure w 16 (skip 3 ∷ imm 9 9 ∷ skip 5 ∷ imm 4 4 ∷ imm 6 6 ∷ imm 8 7 ∷ imm 5 5 ∷ skip 2 ∷ [])

abbrev pub lui : ℕ → ℕ
lui w = figure w 16 (skip 3 ∷ imm 17 17 ∷ skip 5 ∷ imm 16 12 ∷ skip 2 ∷ [])

abbrev pub j : ℕ → ℕ
j w = figure w 16 (skip 3 ∷ imm 11 11 ∷ imm 4 4 ∷ imm 9 8 ∷ imm 10 10 ∷ imm 6 6 ∷ imm 7 7 ∷ imm 3 1 ∷ imm 5 5 ∷ skip 2 ∷ [])

abbrev pub b : ℕ → ℕ
b w = figure w 16 (skip 3 ∷ imm 8 8 ∷ imm 4 3 ∷ skip 3 ∷ imm 7 6 ∷ imm 2 1 ∷ imm 5 5 ∷ skip 2 ∷ [])

abbrev pub lwsp : ℕ → ℕ
lwsp w = figure w 16 (skip 3 ∷ imm 5 5 ∷ skip 5 ∷ imm 4 2 ∷ imm 7 6 ∷ skip 2 ∷ [])

abbrev pub ldsp : ℕ → ℕ
ldsp w = figure w 16 (skip 3 ∷ imm 5 5 ∷ skip 5 ∷ imm 4 3 ∷ imm 8 6 ∷ skip 2 ∷ [])

abbrev pub swsp : ℕ → ℕ
swsp w = figure w 16 (skip 3 ∷ imm 5 2 ∷ imm 7 6 ∷ skip 5 ∷ skip 2 ∷ [])

abbrev pub sdsp : ℕ → ℕ
sdsp w = figure w 16 (skip 3 ∷ imm 5 3 ∷ imm 8 6 ∷ skip 5 ∷ skip 2 ∷ [])

-- a row with a note such as (RES, rd=0)
abbrev pub none_if : Bool → Op → Option Op
none_if true op = None
none_if false op = Some op

-- by funct3
abbrev pub quadrant0 : ℕ → List (Row (Option Op))
quadrant0 w =
    -- C.ADDI4SPN (RES, nzuimm=0), C.LW, C.LD, C.SW, C.SD
    (0b000 ⇒ none_if (eqb (addi4spn w) 0) (AluImm Add (rs2' w) 2 (pos (addi4spn w))))
    ∷ (0b010 ⇒ Some (Load Lw (rs2' w) (rs1' w) (pos (lw w))))
    ∷ (0b011 ⇒ Some (Load Ld (rs2' w) (rs1' w) (pos (ld w))))
    ∷ (0b110 ⇒ Some (Store Sw (rs1' w) (rs2' w) (pos (lw w))))
    ∷ (0b111 ⇒ Some (Store Sd (rs1' w) (rs2' w) (pos (ld w))))
    ∷ []

abbrev pub ca : AluKind → ℕ → Option Op
ca k w = Some (AluReg k (rs1' w) (rs1' w) (rs2' w))

-- C.SUB, C.XOR, C.OR, C.AND; C.SUBW, C.ADDW; by bits 6 and 5
abbrev pub arith64 : ℕ → List (Row (Option Op))
arith64 w = (0b00 ⇒ ca Sub w) ∷ (0b01 ⇒ ca Xor w) ∷ (0b10 ⇒ ca Or w) ∷ (0b11 ⇒ ca And w) ∷ []

abbrev pub arith32 : ℕ → List (Row (Option Op))
arith32 w = (0b00 ⇒ ca Subw w) ∷ (0b01 ⇒ ca Addw w) ∷ []

-- by bit 12
abbrev pub groups : ℕ → ℕ → List (Row (Option Op))
groups funct2 w = (0 ⇒ case funct2 (arith64 w) None) ∷ (1 ⇒ case funct2 (arith32 w) None) ∷ []

-- C.SRLI, C.SRAI, C.ANDI, and the two groups above; by bits 11 and 10
abbrev pub misc_alu : ℕ → List (Row (Option Op))
misc_alu w =
    (0b00 ⇒ Some (AluImm Srl (rs1' w) (rs1' w) (pos (imm6 w))))
    ∷ (0b01 ⇒ Some (AluImm Sra (rs1' w) (rs1' w) (pos (imm6 w))))
    ∷ (0b10 ⇒ Some (AluImm And (rs1' w) (rs1' w) (signed 6 (imm6 w))))
    ∷ (0b11 ⇒ case (slice w 12 12) (groups (slice w 6 5) w) None)
    ∷ []

abbrev pub quadrant1 : ℕ → List (Row (Option Op))
quadrant1 w =
    -- C.ADDI, C.ADDIW (RES, rd=0), C.LI
    (0b000 ⇒ Some (AluImm Add (rd w) (rd w) (signed 6 (imm6 w))))
    ∷ (0b001 ⇒ none_if (eqb (rd w) 0) (AluImm Addw (rd w) (rd w) (signed 6 (imm6 w))))
    ∷ (0b010 ⇒ Some (AluImm Add (rd w) 0 (signed 6 (imm6 w))))
    -- C.ADDI16SP (RES, nzimm=0) where rd is 2, else C.LUI (RES, nzimm=0)
    ∷ (0b011 ⇒
    cond (eqb (rd w) 2)
    (none_if (eqb (addi16sp w) 0) (AluImm Add 2 2 (signed 10 (addi16sp w))))
    (none_if (eqb (lui w) 0) (Lui (rd w) (signed 18 (lui w)))))
    ∷ (0b100 ⇒ case (slice w 11 10) (misc_alu w) None)
    -- C.J, C.BEQZ, C.BNEZ
    ∷ (0b101 ⇒ Some (Jal 0 (signed 12 (j w))))
    ∷ (0b110 ⇒ Some (Branch Beq (rs1' w) 0 (signed 9 (b w))))
    ∷ (0b111 ⇒ Some (Branch Bne (rs1' w) 0 (signed 9 (b w))))
    ∷ []

-- C.JR (RES, rs1=0) and C.MV where bit 12 is 0; C.EBREAK where rs1 and rs2 are 0, C.JALR and C.ADD where it is 1
abbrev pub jump_rows : ℕ → List (Row (Option Op))
jump_rows w =
    (0 ⇒ cond (eqb (rs2 w) 0) (none_if (eqb (rd w) 0) (Jalr 0 (rd w) (pos 0))) (Some (AluReg Add (rd w) 0 (rs2 w))))
    ∷ (1 ⇒ cond (eqb (rs2 w) 0) (none_if (eqb (rd w) 0) (Jalr 1 (rd w) (pos 0))) (Some (AluReg Add (rd w) (rd w) (rs2 w))))
    ∷ []

abbrev pub quadrant2 : ℕ → List (Row (Option Op))
quadrant2 w =
    -- C.SLLI, C.LWSP (RES, rd=0), C.LDSP (RES, rd=0)
    (0b000 ⇒ Some (AluImm Sll (rd w) (rd w) (pos (imm6 w))))
    ∷ (0b010 ⇒ none_if (eqb (rd w) 0) (Load Lw (rd w) 2 (pos (lwsp w))))
    ∷ (0b011 ⇒ none_if (eqb (rd w) 0) (Load Ld (rd w) 2 (pos (ldsp w))))
    ∷ (0b100 ⇒ case (slice w 12 12) (jump_rows w) None)
    -- C.SWSP, C.SDSP
    ∷ (0b110 ⇒ Some (Store Sw 2 (rs2 w) (pos (swsp w))))
    ∷ (0b111 ⇒ Some (Store Sd 2 (rs2 w) (pos (sdsp w))))
    ∷ []

abbrev pub quadrants : ℕ → ℕ → List (Row (Option Op))
quadrants funct3 w =
    (0b00 ⇒ case funct3 (quadrant0 w) None) ∷ (0b01 ⇒ case funct3 (quadrant1 w) None) ∷ (0b10 ⇒ case funct3 (quadrant2 w) None)
    ∷ []

abbrev pub half_by : ℕ → ℕ → ℕ → Option Op
half_by quadrant funct3 w = case quadrant (quadrants funct3 w) None

abbrev pub manual_half : ℕ → Option Op
manual_half w = half_by (slice w 1 0) (slice w 15 13) w
