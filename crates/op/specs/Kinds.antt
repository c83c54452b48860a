-- The kinds in the order of the Rust enums, and their numbers, which are their positions from 0.
-- Assumes nothing.
use Rattle.std.specs.Prelude.{ℕ, ◌<◌, ◌≡◌, List, [], ◌∷◌, map, length, get_or, Option, Some, None}
use Rattle.op.specs.declared.AluKind.{AluKind}
use Rattle.op.specs.declared.AluKind.TheVariants.{Add, Sub, Sll, Slt, Sltu, Xor, Srl, Sra, Or, And, Addw, Subw, Sllw, Srlw, Sraw, Mul, Mulh, Mulhsu, Mulhu, Div, Divu, Rem, Remu, Mulw, Divw, Divuw, Remw, Remuw, Andn, Orn, Xnor, Rol, Ror, Rolw, Rorw, Min, Max, Minu, Maxu, Clz, Ctz, Cpop, Clzw, Ctzw, Cpopw, SextB, SextH, ZextH, Rev8, OrcB, Sh1add, Sh2add, Sh3add, AddUw, Sh1addUw, Sh2addUw, Sh3addUw, SlliUw}
use Rattle.op.specs.declared.LoadKind.{LoadKind}
use Rattle.op.specs.declared.LoadKind.TheVariants.{Lb, Lbu, Lh, Lhu, Lw, Lwu, Ld}
use Rattle.op.specs.declared.StoreKind.{StoreKind}
use Rattle.op.specs.declared.StoreKind.TheVariants.{Sb, Sh, Sw, Sd}
use Rattle.op.specs.declared.BranchKind.{BranchKind}
use Rattle.op.specs.declared.BranchKind.TheVariants.{Beq, Bne, Blt, Bge, Bltu, Bgeu}

abbrev pub alu_kinds : List AluKind
alu_kinds =
    Add ∷ Sub ∷ Sll ∷ Slt ∷ Sltu ∷ Xor ∷ Srl ∷ Sra ∷ Or ∷ And
    ∷ Addw ∷ Subw ∷ Sllw ∷ Srlw ∷ Sraw ∷ Mul ∷ Mulh ∷ Mulhsu ∷ Mulhu ∷ Div
    ∷ Divu ∷ Rem ∷ Remu ∷ Mulw ∷ Divw ∷ Divuw ∷ Remw ∷ Remuw ∷ Andn ∷ Orn
    ∷ Xnor ∷ Rol ∷ Ror ∷ Rolw ∷ Rorw ∷ Min ∷ Max ∷ Minu ∷ Maxu ∷ Clz
    ∷ Ctz ∷ Cpop ∷ Clzw ∷ Ctzw ∷ Cpopw ∷ SextB ∷ SextH ∷ ZextH ∷ Rev8 ∷ OrcB
    ∷ Sh1add ∷ Sh2add ∷ Sh3add ∷ AddUw ∷ Sh1addUw ∷ Sh2addUw ∷ Sh3addUw ∷ SlliUw
    ∷ []

abbrev pub load_kinds : List LoadKind
load_kinds = Lb ∷ Lbu ∷ Lh ∷ Lhu ∷ Lw ∷ Lwu ∷ Ld ∷ []

abbrev pub store_kinds : List StoreKind
store_kinds = Sb ∷ Sh ∷ Sw ∷ Sd ∷ []

abbrev pub branch_kinds : List BranchKind
branch_kinds = Beq ∷ Bne ∷ Blt ∷ Bge ∷ Bltu ∷ Bgeu ∷ []

-- the kind at a position
abbrev pub kind_at : ℕ → Option AluKind
kind_at n = get_or (map Some alu_kinds) n None

-- what makes numbers the positions in a list: each kind stands at its number, and nowhere else
pub record Positions {A : Type 0} (kinds : List A) (number : A → ℕ) : Type 0 where
  pub below : (k : A) → number k < length kinds
  pub at : (k other : A) → get_or kinds (number k) other ≡ k
  pub only : (n : ℕ) (other : A) → n < length kinds → number (get_or kinds n other) ≡ n

-- the numbers; proofs/Numbers.antt shows that they are the positions, so the lists say all of it
abbrev pub alu_number : AluKind → ℕ
alu_number = elim [ Add ↦ 0 | Sub ↦ 1 | Sll ↦ 2 | Slt ↦ 3 | Sltu ↦ 4 | Xor ↦ 5 | Srl ↦ 6 | Sra ↦ 7 | Or ↦ 8 | And ↦ 9 | Addw ↦ 10 | Subw ↦ 11 | Sllw ↦ 12 | Srlw ↦ 13 | Sraw ↦ 14 | Mul ↦ 15 | Mulh ↦ 16 | Mulhsu ↦ 17 | Mulhu ↦ 18 | Div ↦ 19 | Divu ↦ 20 | Rem ↦ 21 | Remu ↦ 22 | Mulw ↦ 23 | Divw ↦ 24 | Divuw ↦ 25 | Remw ↦ 26 | Remuw ↦ 27 | Andn ↦ 28 | Orn ↦ 29 | Xnor ↦ 30 | Rol ↦ 31 | Ror ↦ 32 | Rolw ↦ 33 | Rorw ↦ 34 | Min ↦ 35 | Max ↦ 36 | Minu ↦ 37 | Maxu ↦ 38 | Clz ↦ 39 | Ctz ↦ 40 | Cpop ↦ 41 | Clzw ↦ 42 | Ctzw ↦ 43 | Cpopw ↦ 44 | SextB ↦ 45 | SextH ↦ 46 | ZextH ↦ 47 | Rev8 ↦ 48 | OrcB ↦ 49 | Sh1add ↦ 50 | Sh2add ↦ 51 | Sh3add ↦ 52 | AddUw ↦ 53 | Sh1addUw ↦ 54 | Sh2addUw ↦ 55 | Sh3addUw ↦ 56 | SlliUw ↦ 57 ]

abbrev pub load_number : LoadKind → ℕ
load_number = elim [ Lb ↦ 0 | Lbu ↦ 1 | Lh ↦ 2 | Lhu ↦ 3 | Lw ↦ 4 | Lwu ↦ 5 | Ld ↦ 6 ]

abbrev pub store_number : StoreKind → ℕ
store_number = elim [ Sb ↦ 0 | Sh ↦ 1 | Sw ↦ 2 | Sd ↦ 3 ]

abbrev pub branch_number : BranchKind → ℕ
branch_number = elim [ Beq ↦ 0 | Bne ↦ 1 | Blt ↦ 2 | Bge ↦ 3 | Bltu ↦ 4 | Bgeu ↦ 5 ]
