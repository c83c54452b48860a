-- The list of reserved halfwords that was short: which it missed, and what its reading is.
-- Assumes nothing.
use mathlib.Core.Path.{◌≡◌, refl, sym, ap, ◌∙◌}
use mathlib.Core.Bool.{Bool, true, false, cond, not, ◌&&◌, ◌||◌}
use mathlib.Core.List.{[], ◌∷◌}
use Prim.Native.Nat.{ℕ, ◌+◌, ◌*◌, ◌/◌, ◌<◌}
use native.Mathlib.Nat.{div-div-eq-div-mul}
use native.Mathlib.Omega.{arith}
use lib.Dec.{T, eqb}
use lib.IntN.{pos}
use lib.ListN.{length}
use borrow.Author.Tests.{eqb-true}
use Rattle.bits.specs.Bits.{bits_at}
use Rattle.bits.proofs.Every.{at}
use Rattle.bits.proofs.Tests.{and_both}
use Rattle.op.specs.declared.AluKind.TheVariants.{Add}
use Rattle.op.specs.declared.Op.TheVariants.{Lui, AluImm}
use Rattle.halfword.specs.Instruction.{rd}
use Rattle.halfword.specs.Halfword.{rust_half}
use Rattle.manual.specs.Halfwords.{manual_half}
use Rattle.agree.specs.Differences.{listed, row, imm0, addiw0, addi16sp0, lui0, lwsp0, ldsp0, jr0}
use Rattle.agree.specs.ShortList.{short_entries, missed_entries, short_half, missed_op}
use Rattle.agree.proofs.Entries.{lead, fields, two_ask}
use Rattle.agree.proofs.Halfwords.{half_is}
use Rattle.agree.proofs.ToldHalfwords.{told}
use Rattle.op.specs.declared.Op.{Op}
use Rattle.std.specs.Prelude.{Option, Some, None}

-- by the short list 0x6101 is the op that 0x0101 is to the manual: no record tells them apart, the memory does
pub twins : (short_half 0x6101 ≡ short_half 0x0101) × (manual_half 0x0101 ≡ short_half 0x0101) × (manual_half 0x6101 ≡ None)
twins = (refl, refl, refl)

-- C.ADDI16SP and C.LUI share a row of the listing: whatever rd is, the immediate is 0
missed_row : (w : ℕ) → row 1 3 imm0 w ≡ listed missed_entries w
missed_row w = by (eqb (bits_at w 0 2) 1 && eqb (bits_at w 13 3) 3)
  where
    by : (a : Bool) → (a && imm0 w) ≡ ((a && (eqb (rd w) 2 && imm0 w)) || ((a && (not (eqb (rd w) 2) && imm0 w)) || false))
    by true = two_ask (eqb (rd w) 2) (imm0 w)
    by false = refl

missed_fields : (w : ℕ) → listed missed_entries w ≡ true → (bits_at w 0 2 ≡ 1) × (bits_at w 13 3 ≡ 3) × (imm0 w ≡ true)
missed_fields w h = fields (bits_at w 0 2) 1 (bits_at w 13 3) 3 (imm0 w) (missed_row w ∙ h)

-- they are 32: 0x6001 + 0x80 * rd, for each register
pub missed_all : (rd : ℕ) → rd < 32 → T (listed missed_entries (0x6001 + 0x80 * rd))
missed_all = at 32 (λ rd. listed missed_entries (0x6001 + 0x80 * rd)) tt

top_bits : (w : ℕ) → w < 0x10000 → bits_at w 13 3 ≡ 3 → w / 8192 ≡ 3
top_bits w small top = omega arith

from_bits_lem : (w : ℕ) → bits_at w 0 2 ≡ 1 → bits_at w 2 5 ≡ 0 → bits_at w 12 1 ≡ 0 → w / 8192 ≡ 3 → w ≡ 0x6001 + 0x80 * rd w
from_bits_lem w low five one top =
    let a : w / 4 / 32 ≡ w / 128 = div-div-eq-div-mul w 4 32 in
    let b : w / 128 / 32 ≡ w / 4096 = div-div-eq-div-mul w 128 32 in
    let c : w / 4096 / 2 ≡ w / 8192 = div-div-eq-div-mul w 4096 2 in
    omega arith

pub missed_only : (w : ℕ) → w < 0x10000 → listed missed_entries w ≡ true → w ≡ 0x6001 + 0x80 * rd w
missed_only w small h =
    let f = missed_fields w h in
    let k = and_both (eqb (bits_at w 12 1) 0) (eqb (bits_at w 2 5) 0) f.2 in
    from_bits_lem w f.0 (eqb-true (bits_at w 2 5) 0 k.1) (eqb-true (bits_at w 12 1) 0 k.0) (top_bits w small f.1)

module _ (w : ℕ) where
  abbrev behind : Bool
  behind = listed (lwsp0 ∷ ldsp0 ∷ jr0 ∷ []) w

  short_by : (b : Bool) → listed missed_entries w ≡ b → short_half w ≡ cond b (rust_half w) (manual_half w)
  short_by b h = ap (λ (b : Bool). cond b (rust_half w) (manual_half w)) h

  -- what the readings have at a missed halfword
  pub missed_reads : listed missed_entries w ≡ true → (rust_half w ≡ Some (missed_op w)) × (manual_half w ≡ None)
  missed_reads h = let f = missed_fields w h in by f.0 f.1 f.2 (eqb (rd w) 2) refl
    where
      by : bits_at w 0 2 ≡ 1 → bits_at w 13 3 ≡ 3 → imm0 w ≡ true → (b : Bool) → eqb (rd w) 2 ≡ b
          → (rust_half w ≡ Some (cond b (AluImm Add 2 2 (pos 0)) (Lui (rd w) (pos 0)))) × (manual_half w ≡ None)
      by low top zero true e = told.2.1 w (rw (low, top, e, zero) refl)
      by low top zero false e = told.2.2.1 w (rw (low, top, e, zero) refl)

  pub short-reads : listed missed_entries w ≡ true → short_half w ≡ Some (missed_op w)
  short-reads h = short_by true h ∙ (missed_reads h).0

  -- where the short list's reading and the manual's part
  pub short_alike : listed missed_entries w ≡ false → manual_half w ≡ short_half w
  short_alike h = sym (short_by false h)

  pub short_unlike : listed missed_entries w ≡ true → lead (manual_half w) ≡ lead (short_half w) → ⊥
  short_unlike h e = let no : ◌≡◌ {A = ℕ} 0 2 = ap length (sym (ap lead (missed_reads h).1) ∙ e ∙ ap lead (short-reads h)) in omega arith

  -- so its reading is the Rust's, and none where one of its own entries stands
  pub short-is : short_half w ≡ cond (listed short_entries w) None (rust_half w)
  short-is = ap (λ (d : Option Op). cond (listed missed_entries w) (rust_half w) d) (half_is w) ∙ by (addiw0.covers w) (addi16sp0.covers w) (lui0.covers w) behind (rust_half w) own
    where
      own : listed missed_entries w ≡ true → listed short_entries w ≡ false
      own h = let f = missed_fields w h in rw (f.0, f.1) refl

      by : (a b c d : Bool) (x : Option Op) → ((b || (c || false)) ≡ true → (a || d) ≡ false)
          → cond (b || (c || false)) x (cond (a || (b || (c || d))) None x) ≡ cond (a || d) None x
      by a true c d x o = ap (λ (b : Bool). cond b None x) (sym (o refl))
      by a false true d x o = ap (λ (b : Bool). cond b None x) (sym (o refl))
      by true false false d x o = refl
      by false false false d x o = refl
