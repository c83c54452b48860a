-- The entries of docs/DIFFERENCES.md: the words and halfwords that the Rust and the manual read differently, and what each of them reads there.
-- Assumes nothing.
use Rattle.std.specs.Prelude.{ℕ, ◌≡◌, Bool, true, false, cond, not, ◌&&◌, ◌||◌, List, [], ◌∷◌, eqb, pos, Option, Some, None}
use Rattle.bits.specs.Bits.{bits_at, signed}
use Rattle.op.specs.declared.AluKind.{AluKind}
use Rattle.op.specs.declared.AluKind.TheVariants.{Add, Addw, Max, Minu, SextB, SextH, Rev8, OrcB}
use Rattle.op.specs.declared.LoadKind.TheVariants.{Lw, Ld}
use Rattle.op.specs.declared.Op.TheVariants.{Lui, AluImm, AluReg, Load, Jalr}
use Rattle.word.specs.Instruction as word
use Rattle.halfword.specs.Instruction as half
use Rattle.halfword.specs.Halfword.{imm6, uimm_lwsp, uimm_ldsp}
use Rattle.op.specs.declared.Op.{Op}

-- which encodings an entry covers, one of them, and what the Rust and the manual read each of them as
pub record Entry : Type 0 where
  pub example : ℕ
  pub covers : ℕ → Bool
  pub rust : ℕ → Option Op
  pub manual : ℕ → Option Op

abbrev pub entry : ℕ → (ℕ → Bool) → (ℕ → Option Op) → (ℕ → Option Op) → Entry
entry example covers rust manual = record { example = example; covers = covers; rust = rust; manual = manual }

-- some entry covers w
abbrev pub listed : List Entry → ℕ → Bool
listed [] w = false
listed (e ∷ es) w = e.covers w || listed es w

-- each entry covers its example, and wherever it covers, the two readings are what it says
abbrev pub Told : List Entry → (ℕ → Option Op) → (ℕ → Option Op) → Type 0
Told [] rust manual = Unit {0}
Told (e ∷ es) rust manual =
    (e.covers e.example ≡ true) × ((w : ℕ) → e.covers w ≡ true → (rust w ≡ e.rust w) × (manual w ≡ e.manual w)) × Told es rust manual

-- the Rust's reading, but the manual's answer of the first entry that covers w
abbrev pub amended : List Entry → (ℕ → Option Op) → ℕ → Option Op
amended [] rust w = rust w
amended (e ∷ es) rust w = cond (e.covers w) (e.manual w) (amended es rust w)

abbrev pub none : ℕ → Option Op
none w = None

-- opcode 0x13, by funct3 and bits 31 to 20, which leave no immediate
abbrev pub imm : ℕ → ℕ → ℕ → Bool
imm funct3 top w = eqb (word.opcode w) 0x13 && eqb (word.funct3 w) funct3 && eqb (bits_at w 20 12) top

abbrev pub unary : AluKind → ℕ → Option Op
unary kind w = Some (AluImm kind (word.rd w) (word.rs1 w) (pos 0))

-- opcode 0x33, by funct3 and funct7
abbrev pub reg : ℕ → ℕ → ℕ → Bool
reg funct3 funct7 w = eqb (word.opcode w) 0x33 && eqb (word.funct3 w) funct3 && eqb (word.funct7 w) funct7

abbrev pub binary : AluKind → ℕ → Option Op
binary kind w = Some (AluReg kind (word.rd w) (word.rs1 w) (word.rs2 w))

abbrev pub word_entries : List Entry
word_entries =
    entry 0x68251513 (imm 1 0x682) (unary SextB) none
    ∷ entry 0x68451513 (imm 1 0x684) (unary SextH) none
    ∷ entry 0x60451513 (imm 1 0x604) none (unary SextB)
    ∷ entry 0x60551513 (imm 1 0x605) none (unary SextH)
    ∷ entry 0xd5855513 (imm 5 0xd58) (unary Rev8) none
    ∷ entry 0xd4855513 (imm 5 0xd48) (unary Rev8) none
    ∷ entry 0x50755513 (imm 5 0x507) (unary OrcB) none
    ∷ entry 0x6b855513 (imm 5 0x6b8) none (unary Rev8)
    ∷ entry 0x28755513 (imm 5 0x287) none (unary OrcB)
    ∷ entry 0x0ac5d533 (reg 5 5) (binary Max) (binary Minu)
    ∷ entry 0x0ac5e533 (reg 6 5) (binary Minu) (binary Max)
    ∷ []

-- a row of the C extension's listing, and what is asked there
abbrev pub row : ℕ → ℕ → (ℕ → Bool) → ℕ → Bool
row quadrant funct3 asked w = eqb (half.quadrant w) quadrant && eqb (half.funct3 w) funct3 && asked w

-- the immediate's bits are 0
abbrev pub imm0 : ℕ → Bool
imm0 w = eqb (bits_at w 12 1) 0 && eqb (bits_at w 2 5) 0

-- reserved by the manual: C.ADDIW with rd 0
abbrev pub addiw0 : Entry
addiw0 = entry 0x2001 (row 1 1 (λ w. eqb (half.rd w) 0)) (λ w. Some (AluImm Addw 0 0 (signed 6 (imm6 w)))) none

-- C.ADDI16SP and C.LUI with immediate 0
abbrev pub addi16sp0 : Entry
addi16sp0 = entry 0x6101 (row 1 3 (λ w. eqb (half.rd w) 2 && imm0 w)) (λ w. Some (AluImm Add 2 2 (pos 0))) none

abbrev pub lui0 : Entry
lui0 = entry 0x6081 (row 1 3 (λ w. not (eqb (half.rd w) 2) && imm0 w)) (λ w. Some (Lui (half.rd w) (pos 0))) none

-- C.LWSP and C.LDSP with rd 0
abbrev pub lwsp0 : Entry
lwsp0 = entry 0x4002 (row 2 2 (λ w. eqb (half.rd w) 0)) (λ w. Some (Load Lw 0 2 (pos (uimm_lwsp w)))) none

abbrev pub ldsp0 : Entry
ldsp0 = entry 0x6002 (row 2 3 (λ w. eqb (half.rd w) 0)) (λ w. Some (Load Ld 0 2 (pos (uimm_ldsp w)))) none

-- C.JR with rs1 0
abbrev pub jr0 : Entry
jr0 = entry 0x8002 (row 2 4 (λ w. eqb (bits_at w 12 1) 0 && eqb (half.rs2 w) 0 && eqb (half.rd w) 0)) (λ w. Some (Jalr 0 0 (pos 0))) none

abbrev pub half_entries : List Entry
half_entries = addiw0 ∷ addi16sp0 ∷ lui0 ∷ lwsp0 ∷ ldsp0 ∷ jr0 ∷ []
