-- At every halfword of an entry the Rust and the manual read what the entry says.
-- Assumes nothing.
use mathlib.Core.Path.{◌≡◌, refl, sym}
use mathlib.Core.Bool.{Bool, true, false, not, ◌&&◌}
use Prim.Native.Nat.{ℕ, ◌+◌, ◌*◌, ◌/◌}
use native.Mathlib.Nat.{div-div-eq-div-mul}
use native.Mathlib.Omega.{arith}
use lib.Dec.{eqb}
use lib.IntN.{pos}
use borrow.Author.Tests.{eqb-true}
use Rattle.bits.specs.Bits.{bits_at}
use Rattle.bits.proofs.Tests.{and_both}
use Rattle.op.specs.declared.AluKind.TheVariants.{Add}
use Rattle.op.specs.declared.Op.TheVariants.{Lui, AluImm, Jalr}
use Rattle.halfword.specs.Instruction.{rd, rs2}
use Rattle.halfword.specs.Halfword as rust
use Rattle.halfword.specs.Halfword.{half_at, rust_half}
use Rattle.manual.specs.Halfwords as manual
use Rattle.manual.specs.Halfwords.{half_by, manual_half}
use Rattle.agree.specs.Differences.{Told, row, imm0, half_entries}
use Rattle.agree.proofs.Entries.{fields}
use Rattle.op.specs.declared.Op.{Op}
use Rattle.std.specs.Prelude.{Option, Some, None}

-- the figures of C.ADDI16SP and C.LUI
pub addi16sp : (w : ℕ) → rust.imm_addi16sp w ≡ manual.addi16sp w
addi16sp w = omega arith

pub lui : (w : ℕ) → rust.imm_lui w ≡ manual.lui w
lui w = omega arith

-- a field from its pieces
pub pieces : (w : ℕ) → bits_at w 2 5 ≡ bits_at w 6 1 * 16 + bits_at w 5 1 * 8 + bits_at w 3 2 * 2 + bits_at w 2 1
pieces w =
    let a : w / 4 / 2 ≡ w / 8 = div-div-eq-div-mul w 4 2 in
    let b : w / 8 / 4 ≡ w / 32 = div-div-eq-div-mul w 8 4 in
    let c : w / 32 / 2 ≡ w / 64 = div-div-eq-div-mul w 32 2 in
    let d : w / 64 / 2 ≡ w / 128 = div-div-eq-div-mul w 64 2 in
    let e : w / 4 / 32 ≡ w / 128 = div-div-eq-div-mul w 4 32 in
    omega arith

-- an entry's row in both readings, where what it asks there holds
abbrev AtRow : ℕ → ℕ → ℕ → Option Op → Option Op → Type 0
AtRow q f3 w rust manual = (half_at (q * 0x10 + f3) w ≡ rust) × (half_by q f3 w ≡ manual)

at_row : (q f3 : ℕ) (asked : ℕ → Bool) (rust manual : ℕ → Option Op) → ((w : ℕ) → asked w ≡ true → AtRow q f3 w (rust w) (manual w))
    → (w : ℕ) → row q f3 asked w ≡ true → (rust_half w ≡ rust w) × (manual_half w ≡ manual w)
at_row q f3 asked rust manual shown w h = let k = fields (bits_at w 0 2) q (bits_at w 13 3) f3 (asked w) h in rw (k.0, k.1) (shown w k.2)

no_imm : (w : ℕ) → imm0 w ≡ true → (manual.addi16sp w ≡ 0) × (manual.lui w ≡ 0)
no_imm w h =
    let k = and_both (eqb (bits_at w 12 1) 0) (eqb (bits_at w 2 5) 0) h in
    let x = eqb-true (bits_at w 12 1) 0 k.0 in
    let y = eqb-true (bits_at w 2 5) 0 k.1 in
    let s = pieces w in
    (omega arith, omega arith)

addi16sp_0 : (w : ℕ) → (eqb (rd w) 2 && imm0 w) ≡ true → AtRow 1 3 w (Some (AluImm Add 2 2 (pos 0))) None
addi16sp_0 w h =
    let k = and_both (eqb (rd w) 2) (imm0 w) h in
    rw (k.0, addi16sp w, (no_imm w k.1).0) (refl, refl)

lui_0 : (w : ℕ) → (not (eqb (rd w) 2) && imm0 w) ≡ true → AtRow 1 3 w (Some (Lui (rd w) (pos 0))) None
lui_0 w h =
    let k = and_both (not (eqb (rd w) 2)) (imm0 w) h in
    rw (is_false (eqb (rd w) 2) k.0, lui w, (no_imm w k.1).1) (refl, refl)
  where
    is_false : (b : Bool) → not b ≡ true → b ≡ false
    is_false true h = sym h
    is_false false h = refl

jr_0 : (w : ℕ) → (eqb (bits_at w 12 1) 0 && eqb (rs2 w) 0 && eqb (rd w) 0) ≡ true → AtRow 2 4 w (Some (Jalr 0 0 (pos 0))) None
jr_0 w h = let k = fields (bits_at w 12 1) 0 (rs2 w) 0 (eqb (rd w) 0) h in rw (k.0, k.1, eqb-true (rd w) 0 k.2) (refl, refl)

pub told : Told half_entries rust_half manual_half
told = (refl, at_row 1 1 _ _ _ (λ w h. rw (eqb-true (rd w) 0 h) (refl, refl)), (refl, at_row 1 3 _ _ _ addi16sp_0, (refl, at_row 1 3 _ _ _ lui_0, (refl, at_row 2 2 _ _ _ (λ w h. rw (eqb-true (rd w) 0 h) (refl, refl)), (refl, at_row 2 3 _ _ _ (λ w h. rw (eqb-true (rd w) 0 h) (refl, refl)), (refl, at_row 2 4 _ _ _ jr_0, tt))))))
