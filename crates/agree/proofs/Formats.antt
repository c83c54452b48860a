-- The Rust's forms and the manual's formats: what they make of a word, and when they are one.
-- Assumes nothing.
use mathlib.Core.Path.{◌≡◌, refl, sym, ap, ◌∙◌}
use mathlib.Core.Bool.{Bool, ◌&&◌}
use mathlib.Core.List.{[], ◌∷◌}
use Prim.Native.Nat.{ℕ, ◌+◌, ◌*◌, ◌^◌}
use native.Mathlib.Omega.{arith}
use lib.Dec.{T, eqb, eqb→eq}
use lib.ListN.{get_or}
use Rattle.std.specs.Prelude.{Option, Some, None, option_map}
use Rattle.bits.specs.Bits.{bits_at, signed}
use Rattle.bits.specs.Match.{◌⇒◌, case}
use Rattle.bits.proofs.Every.{both}
use Rattle.op.specs.Kinds.{alu_kinds, alu_number, load_kinds, load_number, store_kinds, store_number, branch_kinds, branch_number}
use Rattle.op.specs.declared.AluKind.TheVariants.{Add}
use Rattle.op.specs.declared.LoadKind.TheVariants.{Lb}
use Rattle.op.specs.declared.StoreKind.TheVariants.{Sb}
use Rattle.op.specs.declared.BranchKind.TheVariants.{Beq}
use Rattle.op.proofs.Numbers.{alu_positions, load_positions, store_positions, branch_positions}
use Rattle.word.specs.Instruction as rust
use Rattle.word.specs.Word as rust-word
use Rattle.word.specs.declared.Form.{Form}
use Rattle.word.specs.declared.Form.TheVariants.{Lui, Auipc, Jal, Jalr, Branch, Load, Store, Imm, Shift6, Shift5, Unary, Reg}
use Rattle.manual.specs.Words as manual
use Rattle.manual.specs.Words.{Format, NoRow, LUI, AUIPC, JAL, JALR, B, L, S, I, I6, I5, I0, R}

-- the Rust's forms in the manual's names
abbrev pub named : Option Form → Format
named None = NoRow
named (Some Lui) = LUI
named (Some Auipc) = AUIPC
named (Some Jal) = JAL
named (Some Jalr) = JALR
named (Some (Branch k)) = B k
named (Some (Load k)) = L k
named (Some (Store k)) = S k
named (Some (Imm k)) = I k
named (Some (Shift6 k)) = I6 k
named (Some (Shift5 k)) = I5 k
named (Some (Unary k)) = I0 k
named (Some (Reg k)) = R k

-- the manual's figures give the Rust's sums
imm_i_lem : (w : ℕ) → rust.imm_i w ≡ signed 12 (manual.imm_i w)
imm_i_lem w = let e : bits_at w 20 12 ≡ manual.imm_i w = omega arith in ap (signed 12) e

imm_s_lem : (w : ℕ) → rust.imm_s w ≡ signed 12 (manual.imm_s w)
imm_s_lem w = let e : bits_at w 25 7 * 2 ^ 5 + bits_at w 7 5 ≡ manual.imm_s w = omega arith in ap (signed 12) e

imm_b_lem : (w : ℕ) → rust.imm_b w ≡ signed 13 (manual.imm_b w)
imm_b_lem w = let e : bits_at w 31 1 * 2 ^ 12 + bits_at w 7 1 * 2 ^ 11 + bits_at w 25 6 * 2 ^ 5 + bits_at w 8 4 * 2 ≡ manual.imm_b w = omega arith in ap (signed 13) e

imm_u_lem : (w : ℕ) → rust.imm_u w ≡ signed 32 (manual.imm_u w)
imm_u_lem w = let e : bits_at w 12 20 * 2 ^ 12 ≡ manual.imm_u w = omega arith in ap (signed 32) e

imm_j_lem : (w : ℕ) → rust.imm_j w ≡ signed 21 (manual.imm_j w)
imm_j_lem w = let e : bits_at w 31 1 * 2 ^ 20 + bits_at w 12 8 * 2 ^ 12 + bits_at w 20 1 * 2 ^ 11 + bits_at w 21 10 * 2 ≡ manual.imm_j w = omega arith in ap (signed 21) e

-- the two readings of the operands are one
pub operands : (w : ℕ) (f : Option Form) → option_map (rust-word.op_of w) f ≡ manual.op_of w (named f)
operands w None = refl
operands w (Some Lui) = rw (imm_u_lem w)
operands w (Some Auipc) = rw (imm_u_lem w)
operands w (Some Jal) = rw (imm_j_lem w)
operands w (Some Jalr) = rw (imm_i_lem w)
operands w (Some (Branch k)) = rw (imm_b_lem w)
operands w (Some (Load k)) = rw (imm_i_lem w)
operands w (Some (Store k)) = rw (imm_s_lem w)
operands w (Some (Imm k)) = rw (imm_i_lem w)
operands w (Some (Shift6 k)) = refl
operands w (Some (Shift5 k)) = refl
operands w (Some (Unary k)) = refl
operands w (Some (Reg k)) = refl

-- a format is known by two numbers
abbrev shape : Format → ℕ
shape NoRow = 0
shape LUI = 1
shape AUIPC = 2
shape JAL = 3
shape JALR = 4
shape (B k) = 5
shape (L k) = 6
shape (S k) = 7
shape (I k) = 8
shape (I6 k) = 9
shape (I5 k) = 10
shape (I0 k) = 11
shape (R k) = 12

abbrev kind : Format → ℕ
kind NoRow = 0
kind LUI = 0
kind AUIPC = 0
kind JAL = 0
kind JALR = 0
kind (B k) = branch_number k
kind (L k) = load_number k
kind (S k) = store_number k
kind (I k) = alu_number k
kind (I6 k) = alu_number k
kind (I5 k) = alu_number k
kind (I0 k) = alu_number k
kind (R k) = alu_number k

abbrev made : ℕ → ℕ → Format
made s k =
    case s
    ((0 ⇒ NoRow) ∷ (1 ⇒ LUI) ∷ (2 ⇒ AUIPC) ∷ (3 ⇒ JAL) ∷ (4 ⇒ JALR)
    ∷ (5 ⇒ B (get_or branch_kinds k Beq)) ∷ (6 ⇒ L (get_or load_kinds k Lb)) ∷ (7 ⇒ S (get_or store_kinds k Sb))
    ∷ (8 ⇒ I (get_or alu_kinds k Add)) ∷ (9 ⇒ I6 (get_or alu_kinds k Add)) ∷ (10 ⇒ I5 (get_or alu_kinds k Add))
    ∷ (11 ⇒ I0 (get_or alu_kinds k Add)) ∷ (12 ⇒ R (get_or alu_kinds k Add)) ∷ [])
    NoRow

made_is : (f : Format) → made (shape f) (kind f) ≡ f
made_is NoRow = refl
made_is LUI = refl
made_is AUIPC = refl
made_is JAL = refl
made_is JALR = refl
made_is (B k) = ap B (branch_positions.at k Beq)
made_is (L k) = ap L (load_positions.at k Lb)
made_is (S k) = ap S (store_positions.at k Sb)
made_is (I k) = ap I (alu_positions.at k Add)
made_is (I6 k) = ap I6 (alu_positions.at k Add)
made_is (I5 k) = ap I5 (alu_positions.at k Add)
made_is (I0 k) = ap I0 (alu_positions.at k Add)
made_is (R k) = ap R (alu_positions.at k Add)

abbrev pub same : Format → Format → Bool
same a b = eqb (shape a) (shape b) && eqb (kind a) (kind b)

pub same_is : (a b : Format) → T (same a b) → a ≡ b
same_is a b t =
    let h = both (eqb (shape a) (shape b)) (eqb (kind a) (kind b)) t in
    let s : shape a ≡ shape b = eqb→eq (shape a) (shape b) h.0 in
    let k : kind a ≡ kind b = eqb→eq (kind a) (kind b) h.1 in
    sym (made_is a) ∙ ap (λ (n : ℕ). made n (kind a)) s ∙ ap (made (shape b)) k ∙ made_is b
