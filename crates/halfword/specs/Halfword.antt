-- What the Rust reads a halfword as: `decode_compressed` of block.rs, as tables of its `match` arms.
-- Assumes nothing.
use Rattle.std.specs.Prelude.{ℕ, ◌+◌, ◌*◌, cond, List, [], ◌∷◌, eqb, ℤ, pos, Option, Some, None}
use Rattle.bits.specs.Bits.{bits_at, signed}
use Rattle.bits.specs.Match.{Row, ◌⇒◌, case}
use Rattle.op.specs.declared.AluKind.{AluKind}
use Rattle.op.specs.declared.AluKind.TheVariants.{Add, Sub, Xor, Or, And, Addw, Subw, Sll, Srl, Sra}
use Rattle.op.specs.declared.LoadKind.TheVariants.{Lw, Ld}
use Rattle.op.specs.declared.StoreKind.TheVariants.{Sw, Sd}
use Rattle.op.specs.declared.BranchKind.TheVariants.{Beq, Bne}
use Rattle.op.specs.declared.Op.TheVariants.{Lui, AluImm, AluReg, Load, Store, Branch, Jal, Jalr}
use Rattle.op.specs.declared.Op.{Op}
use Rattle.halfword.specs.Instruction.{quadrant, funct3, rs2_prime, rs1_prime, rd, rs2}

-- the immediates, by the instructions that have them
abbrev pub nzuimm_addi4spn : ℕ → ℕ
nzuimm_addi4spn w = bits_at w 6 1 * 4 + bits_at w 5 1 * 8 + bits_at w 11 2 * 16 + bits_at w 7 4 * 64

abbrev pub uimm_lw : ℕ → ℕ
uimm_lw w = bits_at w 6 1 * 4 + bits_at w 10 3 * 8 + bits_at w 5 1 * 64

abbrev pub uimm_ld : ℕ → ℕ
uimm_ld w = bits_at w 10 3 * 8 + bits_at w 5 2 * 64

-- C.ADDI, C.ADDIW, C.LI and C.ANDI take these six bits signed, the shifts unsigned
abbrev pub imm6 : ℕ → ℕ
imm6 w = bits_at w 12 1 * 32 + bits_at w 2 5

abbrev pub imm_addi16sp : ℕ → ℕ
imm_addi16sp w = bits_at w 12 1 * 512 + bits_at w 6 1 * 16 + bits_at w 5 1 * 64 + bits_at w 3 2 * 128 + bits_at w 2 1 * 32

abbrev pub imm_lui : ℕ → ℕ
imm_lui w = bits_at w 12 1 * 131072 + bits_at w 2 5 * 4096

abbrev pub off_j : ℕ → ℕ
off_j w =
    bits_at w 12 1 * 2048 + bits_at w 11 1 * 16 + bits_at w 9 2 * 256 + bits_at w 8 1 * 1024
    + bits_at w 7 1 * 64 + bits_at w 6 1 * 128 + bits_at w 3 3 * 2 + bits_at w 2 1 * 32

abbrev pub off_b : ℕ → ℕ
off_b w = bits_at w 12 1 * 256 + bits_at w 10 2 * 8 + bits_at w 5 2 * 64 + bits_at w 3 2 * 2 + bits_at w 2 1 * 32

abbrev pub uimm_lwsp : ℕ → ℕ
uimm_lwsp w = bits_at w 12 1 * 32 + bits_at w 4 3 * 4 + bits_at w 2 2 * 64

abbrev pub uimm_ldsp : ℕ → ℕ
uimm_ldsp w = bits_at w 12 1 * 32 + bits_at w 5 2 * 8 + bits_at w 2 3 * 64

abbrev pub uimm_swsp : ℕ → ℕ
uimm_swsp w = bits_at w 9 4 * 4 + bits_at w 7 2 * 64

abbrev pub uimm_sdsp : ℕ → ℕ
uimm_sdsp w = bits_at w 10 3 * 8 + bits_at w 7 3 * 64

-- quadrant 1, funct3 4
abbrev pub prime_reg : AluKind → ℕ → Option Op
prime_reg k w = Some (AluReg k (rs1_prime w) (rs1_prime w) (rs2_prime w))

-- the key is bit 12, then bits 6 and 5: 5 is the Rust's (1, 0x1)
abbrev pub prime_rows : ℕ → List (Row (Option Op))
prime_rows w =
    (0 ⇒ prime_reg Sub w) ∷ (1 ⇒ prime_reg Xor w) ∷ (2 ⇒ prime_reg Or w) ∷ (3 ⇒ prime_reg And w) ∷ (4 ⇒ prime_reg Subw w) ∷ (5 ⇒ prime_reg Addw w)
    ∷ []

abbrev pub prime_imm : AluKind → ℕ → ℤ → Option Op
prime_imm k w imm = Some (AluImm k (rs1_prime w) (rs1_prime w) imm)

abbrev pub misc_rows : ℕ → List (Row (Option Op))
misc_rows w =
    (0 ⇒ prime_imm Srl w (pos (imm6 w))) ∷ (1 ⇒ prime_imm Sra w (pos (imm6 w))) ∷ (2 ⇒ prime_imm And w (signed 6 (imm6 w)))
    ∷ []

-- quadrant 2, funct3 4
abbrev pub jr_mv : ℕ → Option Op
jr_mv w = cond (eqb (rs2 w) 0) (Some (Jalr 0 (rd w) (pos 0))) (Some (AluReg Add (rd w) 0 (rs2 w)))

abbrev pub jalr_add : ℕ → Option Op
jalr_add w = cond (eqb (rs2 w) 0) (cond (eqb (rd w) 0) None (Some (Jalr 1 (rd w) (pos 0)))) (Some (AluReg Add (rd w) (rd w) (rs2 w)))

-- the key has the quadrant and then funct3, in hexadecimal: 0x15 is the Rust's (1, 0x5)
abbrev pub half_rows : ℕ → List (Row (Option Op))
half_rows w =
    (0x00 ⇒ cond (eqb (nzuimm_addi4spn w) 0) None (Some (AluImm Add (rs2_prime w) 2 (pos (nzuimm_addi4spn w)))))
    ∷ (0x02 ⇒ Some (Load Lw (rs2_prime w) (rs1_prime w) (pos (uimm_lw w))))
    ∷ (0x03 ⇒ Some (Load Ld (rs2_prime w) (rs1_prime w) (pos (uimm_ld w))))
    ∷ (0x06 ⇒ Some (Store Sw (rs1_prime w) (rs2_prime w) (pos (uimm_lw w))))
    ∷ (0x07 ⇒ Some (Store Sd (rs1_prime w) (rs2_prime w) (pos (uimm_ld w))))
    ∷ (0x10 ⇒ Some (AluImm Add (rd w) (rd w) (signed 6 (imm6 w))))
    ∷ (0x11 ⇒ Some (AluImm Addw (rd w) (rd w) (signed 6 (imm6 w))))
    ∷ (0x12 ⇒ Some (AluImm Add (rd w) 0 (signed 6 (imm6 w))))
    ∷ (0x13 ⇒ cond (eqb (rd w) 2) (Some (AluImm Add 2 2 (signed 10 (imm_addi16sp w)))) (Some (Lui (rd w) (signed 18 (imm_lui w)))))
    ∷ (0x14 ⇒ case (bits_at w 10 2) (misc_rows w) (case (bits_at w 12 1 * 4 + bits_at w 5 2) (prime_rows w) None))
    ∷ (0x15 ⇒ Some (Jal 0 (signed 12 (off_j w))))
    ∷ (0x16 ⇒ Some (Branch Beq (rs1_prime w) 0 (signed 9 (off_b w))))
    ∷ (0x17 ⇒ Some (Branch Bne (rs1_prime w) 0 (signed 9 (off_b w))))
    ∷ (0x20 ⇒ Some (AluImm Sll (rd w) (rd w) (pos (imm6 w))))
    ∷ (0x22 ⇒ Some (Load Lw (rd w) 2 (pos (uimm_lwsp w))))
    ∷ (0x23 ⇒ Some (Load Ld (rd w) 2 (pos (uimm_ldsp w))))
    ∷ (0x24 ⇒ cond (eqb (bits_at w 12 1) 0) (jr_mv w) (jalr_add w))
    ∷ (0x26 ⇒ Some (Store Sw 2 (rs2 w) (pos (uimm_swsp w))))
    ∷ (0x27 ⇒ Some (Store Sd 2 (rs2 w) (pos (uimm_sdsp w))))
    ∷ []

abbrev pub half_at : ℕ → ℕ → Option Op
half_at key w = case key (half_rows w) None

abbrev pub rust_half : ℕ → Option Op
rust_half w = half_at (quadrant w * 0x10 + funct3 w) w
