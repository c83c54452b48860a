-- Outside the entries the Rust and the manual read each halfword alike; at every entry they differ.
-- The quadrant and funct3 pick a row in each reading; row by row the manual's figures give the Rust's sums.
-- Assumes nothing.
use mathlib.Core.Path.{◌≡◌, refl, ap, ◌∙◌}
use mathlib.Core.Bool.{Bool, true, false, cond, ◌&&◌, ◌||◌, true≢false}
use Prim.Native.Nat.{ℕ, ◌+◌, ◌*◌, ◌<◌}
use native.Mathlib.Omega.{arith}
use lib.Dec.{eqb}
use borrow.Author.Tests.{ne_eqb}
use Rattle.bits.specs.Bits.{bits_at}
use Rattle.bits.specs.Match.{case}
use Rattle.bits.proofs.Every.{each}
use Rattle.op.specs.declared.Op.{Op}
use Rattle.halfword.specs.Instruction.{rd, rs2}
use Rattle.halfword.specs.Halfword as rust
use Rattle.halfword.specs.Halfword.{half_at, rust_half}
use Rattle.manual.specs.Halfwords as manual
use Rattle.manual.specs.Halfwords.{half_by, manual_half}
use Rattle.agree.specs.Differences.{listed, amended, half_entries}
use Rattle.agree.proofs.Entries.{lead, differ_by, manual_by, silent}
use Rattle.agree.proofs.ToldHalfwords.{addi16sp, lui, pieces, told}
use Rattle.std.specs.Prelude.{Option, Some, None}

-- the figures
addi4spn : (w : ℕ) → rust.nzuimm_addi4spn w ≡ manual.addi4spn w
addi4spn w = omega arith

lw : (w : ℕ) → rust.uimm_lw w ≡ manual.lw w
lw w = omega arith

ld : (w : ℕ) → rust.uimm_ld w ≡ manual.ld w
ld w = omega arith

imm6 : (w : ℕ) → rust.imm6 w ≡ manual.imm6 w
imm6 w = omega arith

j : (w : ℕ) → rust.off_j w ≡ manual.j w
j w = omega arith

b : (w : ℕ) → rust.off_b w ≡ manual.b w
b w = omega arith

lwsp : (w : ℕ) → rust.uimm_lwsp w ≡ manual.lwsp w
lwsp w = omega arith

ldsp : (w : ℕ) → rust.uimm_ldsp w ≡ manual.ldsp w
ldsp w = omega arith

swsp : (w : ℕ) → rust.uimm_swsp w ≡ manual.swsp w
swsp w = omega arith

sdsp : (w : ℕ) → rust.uimm_sdsp w ≡ manual.sdsp w
sdsp w = omega arith

-- a halfword of this row that no entry covers
abbrev Free : ℕ → ℕ → ℕ → Type 0
Free w q f3 = (bits_at w 0 2 ≡ q) × (bits_at w 13 3 ≡ f3) × (listed half_entries w ≡ false)

abbrev Alike : ℕ → ℕ → ℕ → Type 0
Alike w q f3 = Free w q f3 → half_at (q * 0x10 + f3) w ≡ half_by q f3 w

-- what the row's entry asks does not hold
not_asked : (x y : Bool) → (x || y) ≡ false → x ≡ false
not_asked true y h = h
not_asked false y h = refl

-- C.ADDI16SP and C.LUI: an immediate is 0 exactly where its bits are
not-both : (w : ℕ) (two : Bool) → Free w 1 3 → eqb (rd w) 2 ≡ two → bits_at w 12 1 ≡ 0 → bits_at w 2 5 ≡ 0 → ⊥
not-both w true h e x y = true≢false (rw (h.0, h.1, x, y, e) at h.2)
not-both w false h e x y = true≢false (rw (h.0, h.1, x, y, e) at h.2)

wide : (w : ℕ) → Alike w 1 3
wide w h =
    let n = not-both w (eqb (rd w) 2) h refl in
    let s = pieces w in
    let a : manual.addi16sp w ≡ 0 → ⊥ = λ e. n (omega arith) (omega arith) in
    let u : manual.lui w ≡ 0 → ⊥ = λ e. n (omega arith) (omega arith) in
    rw (ne_eqb (manual.addi16sp w) 0 a, ne_eqb (manual.lui w) 0 u, addi16sp w, lui w)

-- C.SUB to C.ADDW, by bit 12 and by bits 6 and 5
abbrev Group : ℕ → ℕ → ℕ → Type 0
Group w bit f = case (bit * 4 + f) (rust.prime_rows w) None ≡ case bit (manual.groups f w) None

groups : (w : ℕ) → Group w (bits_at w 12 1) (bits_at w 5 2)
groups w =
    each 2 (λ bit. Group w bit (bits_at w 5 2)) (
      (tt, each 4 (Group w 0) ((((tt, refl), refl), refl), refl) (bits_at w 5 2) (omega arith)),
      each 4 (Group w 1) ((((tt, refl), refl), refl), refl) (bits_at w 5 2) (omega arith),
    )
    (bits_at w 12 1) (omega arith)

misc : (w : ℕ) → Alike w 1 4
misc w h =
    each 4 (λ k. case k (rust.misc_rows w) (case (bits_at w 12 1 * 4 + bits_at w 5 2) (rust.prime_rows w) None) ≡ case k (manual.misc_alu w) None)
    ((((tt, rw (imm6 w)), rw (imm6 w)), rw (imm6 w)), groups w)
    (bits_at w 10 2) (omega arith)

-- C.JR, C.MV, C.EBREAK, C.JALR, C.ADD
none_if_lem : (x : Bool) (op : Op) → cond x None (Some op) ≡ manual.none_if x op
none_if_lem true op = refl
none_if_lem false op = refl

kept : (x y : Bool) (op : Op) (other : Option Op) → (x && y) ≡ false → cond x (Some op) other ≡ cond x (manual.none_if y op) other
kept true true op other h = absurd (true≢false h)
kept true false op other h = refl
kept false y op other h = refl

jump_rows_lem : (w : ℕ) → Alike w 2 4
jump_rows_lem w h =
    each 2 (λ bit. (eqb bit 0 && eqb (rs2 w) 0 && eqb (rd w) 0) ≡ false → cond (eqb bit 0) (rust.jr_mv w) (rust.jalr_add w) ≡ case bit (manual.jump_rows w) None)
    ((tt, kept (eqb (rs2 w) 0) (eqb (rd w) 0) _ _), λ h. rw (none_if_lem (eqb (rd w) 0)))
    (bits_at w 12 1) (omega arith) (not_asked (eqb (bits_at w 12 1) 0 && eqb (rs2 w) 0 && eqb (rd w) 0) _ (rw (h.0, h.1) at h.2))

quadrant0 : (w f3 : ℕ) → f3 < 8 → Alike w 0 f3
quadrant0 w =
    each 8 (Alike w 0)
    ((((((((tt, λ h. rw (addi4spn w) (none_if_lem (eqb (manual.addi4spn w) 0) _)), λ h. refl), λ h. rw (lw w)), λ h. rw (ld w)), λ h. refl), λ h. refl), λ h. rw (lw w)), λ h. rw (ld w))

quadrant1 : (w f3 : ℕ) → f3 < 8 → Alike w 1 f3
quadrant1 w =
    each 8 (Alike w 1)
    ((((((((tt, λ h. rw (imm6 w)), λ h. rw (not_asked (eqb (rd w) 0) _ (rw (h.0, h.1) at h.2), imm6 w)), λ h. rw (imm6 w)), wide w), misc w), λ h. rw (j w)), λ h. rw (b w)), λ h. rw (b w))

quadrant2 : (w f3 : ℕ) → f3 < 8 → Alike w 2 f3
quadrant2 w =
    each 8 (Alike w 2)
    ((((((((tt, λ h. rw (imm6 w)), λ h. refl), λ h. rw (not_asked (eqb (rd w) 0) _ (rw (h.0, h.1) at h.2), lwsp w)), λ h. rw (not_asked (eqb (rd w) 0) _ (rw (h.0, h.1) at h.2), ldsp w)), jump_rows_lem w), λ h. refl), λ h. rw (swsp w)), λ h. rw (sdsp w))

quadrant3 : (w f3 : ℕ) → f3 < 8 → Alike w 3 f3
quadrant3 w = each 8 (Alike w 3) ((((((((tt, λ h. refl), λ h. refl), λ h. refl), λ h. refl), λ h. refl), λ h. refl), λ h. refl), λ h. refl)

alike : (w q f3 : ℕ) → q < 4 → f3 < 8 → Alike w q f3
alike w q f3 hq h3 = each 4 (λ q. Alike w q f3) ((((tt, quadrant0 w f3 h3), quadrant1 w f3 h3), quadrant2 w f3 h3), quadrant3 w f3 h3) q hq

pub agree : (w : ℕ) → listed half_entries w ≡ false → rust_half w ≡ manual_half w
agree w e = alike w (bits_at w 0 2) (bits_at w 13 3) (omega arith) (omega arith) (refl, refl, e)

-- in the op or its kind, or in having one
pub unlike : (w : ℕ) → listed half_entries w ≡ true → lead (rust_half w) ≡ lead (manual_half w) → ⊥
unlike w = differ_by rust_half manual_half half_entries told w tt

pub differ : (w : ℕ) → listed half_entries w ≡ true → rust_half w ≡ manual_half w → ⊥
differ w h e = unlike w h (ap lead e)

pub manual-is : (w : ℕ) → manual_half w ≡ amended half_entries rust_half w
manual-is w = manual_by rust_half manual_half half_entries told w (agree w)

-- the Rust's reading, and none where an entry stands
pub half_is : (w : ℕ) → manual_half w ≡ cond (listed half_entries w) None (rust_half w)
half_is w = manual-is w ∙ silent half_entries (λ w. refl, (λ w. refl, (λ w. refl, (λ w. refl, (λ w. refl, (λ w. refl, tt)))))) rust_half w
