-- The blocks that the manual's reading forms otherwise than the short list of reserved halfwords would have them, judged by their memory.
-- Assumes nothing.
use mathlib.Core.Path.{◌≡◌, refl, ap, ◌∙◌}
use mathlib.Core.Bool.{Bool, true, false, cond}
use mathlib.Core.List.{List, [], ◌∷◌, ◌++◌}
use Prim.Native.Nat.{ℕ, suc, ◌+◌, ◌-◌, ◌<◌}
use native.Mathlib.Omega.{arith}
use lib.Dec.{eqb, ltb}
use lib.IntN.{pos}
use borrow.Author.Tests.{eqb-true}
use lib.ListN.{length}
use Rattle.answer.specs.declared.Refusal.TheVariants.{NoOp}
use Rattle.bits.specs.Bytes.{halfword_at}
use Rattle.bits.proofs.Tests.{true_false}
use Rattle.op.specs.Record.{op_fields}
use Rattle.op.specs.declared.AluKind.TheVariants.{Add}
use Rattle.op.specs.declared.Op.TheVariants.{Lui, AluImm}
use Rattle.halfword.specs.Instruction.{rd}
use Rattle.agree.specs.Differences.{listed}
use Rattle.agree.specs.ShortList.{missed_entries, missed_op}
use Rattle.agree.proofs.ShortList.{short-reads, missed_reads}
use Rattle.reading.specs.Readings.{manual, reading_of}
use Rattle.block.specs.Memory.{rest_of_page}
use Rattle.block.specs.Record.{Insn, insn, byte_len, block_record}
use Rattle.block.specs.WellFormed.{jumps}
use Rattle.form.specs.Forming.{ilen_at, op_at, ops_from, formed}
use Rattle.form.specs.Call.{form_judged, formed_into, form_call}
use Rattle.form.specs.ShortList.{short, form_short, missed_at, meets_missed}
use Rattle.form.proofs.Parts.{missed_part}
use Rattle.form.proofs.TwoReadings.{parted_alike, ends_before, forms_alike, forms_alike_only}
use Rattle.answer.specs.Answer.{done}
use Rattle.std.specs.Prelude.{Some, None, Err}

-- what stands at a missed halfword's offset
module _ (s : List ℕ) (at : ℕ) (h : missed_at s at ≡ true) where
  stands : (ltb (length s) (at + 2) ≡ false) × (ilen_at s at ≡ 2) × (listed missed_entries (halfword_at s at) ≡ true)
  stands =
      let k = by (ltb (length s) (at + 2)) (eqb (ilen_at s at) 2) (ltb (length s) (at + 4)) (listed missed_entries (halfword_at s at)) h in
      (k.0, eqb-true (ilen_at s at) 2 k.1, k.2)
    where
      by : (a b c m : Bool) → cond a false (cond b m (cond c false false)) ≡ true → (a ≡ false) × (b ≡ true) × (m ≡ true)
      by true b c m h = absurd (true_false h refl)
      by false true c m h = (refl, refl, h)
      by false false true m h = absurd (true_false h refl)
      by false false false m h = absurd (true_false h refl)

  none_there : op_at manual s at ≡ None
  unfolding op_at
  none_there = rw (stands.0, stands.1) (missed_reads (halfword_at s at) stands.2).1

  rust_there : op_at short s at ≡ Some (missed_op (halfword_at s at))
  unfolding op_at
  rust_there = rw (stands.0, stands.1) (short-reads (halfword_at s at) stands.2)

no_jump : (w : ℕ) → jumps (op_fields (missed_op w)).op ≡ false
no_jump w = by (eqb (rd w) 2)
  where
    by : (b : Bool) → jumps (op_fields (cond b (AluImm Add 2 2 (pos 0)) (Lui (rd w) (pos 0)))).op ≡ false
    by true = refl
    by false = refl

module _ (memory : List ℕ) (base address : ℕ) (lent : List ℕ) where
  abbrev rest : List ℕ
  rest = rest_of_page memory base address

  -- the ops of the manual's block
  abbrev ops : List Insn
  ops = formed manual memory base address

  -- a block whose walk meets none of the missed halfwords is the same by both
  pub short_same : meets_missed memory base address ≡ false → form_call 1 memory base address lent ≡ form_short memory base address lent
  unfolding form_call reading_of
  short_same =
      forms_alike missed_part memory base address lent (form_judged 1 (length memory) (length lent) base address)

  -- and one that is the same met none
  pub short_same_only : form_judged 1 (length memory) (length lent) base address ≡ done → form_call 1 memory base address lent ≡ form_short memory base address lent
      → meets_missed memory base address ≡ false
  unfolding form_call reading_of
  short_same_only judged e =
      forms_alike_only missed_part memory base address lent (rw judged at e)

  goes_on_from : (at n : ℕ) → missed_at rest at ≡ true → n < 64
      → ops_from short rest (64 - n) at ≡ insn (missed_op (halfword_at rest at)) 2 ∷ ops_from short rest (63 - n) (at + 2)
  unfolding ops_from
  goes_on_from at n h l =
      let z : 64 - n ≡ suc (63 - n) = omega arith in
      rw (z, rust_there rest at h, (stands rest at h).1, no_jump (halfword_at rest at)) refl

  -- where it meets one, one stands right behind the manual's block, and the short list's has the same ops, then the Rust's op of that halfword
  pub short_goes_on : meets_missed memory base address ≡ true
      → (missed_at rest (byte_len ops) ≡ true)
      × (formed short memory base address ≡ ops ++ (insn (missed_op (halfword_at rest (byte_len ops))) 2 ∷ ops_from short rest (63 - length ops) (byte_len ops + 2)))
  short_goes_on h =
      let z : 0 + byte_len ops ≡ byte_len ops = omega arith in
      let k = rw z at (ends_before manual short rest (missed_at rest) (parted_alike missed_part rest) (none_there rest) 64 0 h) in
      (k.0, k.2 ∙ ap (λ (next : List Insn). ops ++ next) (goes_on_from (byte_len ops) (length ops) k.0 k.1))

  none_first : missed_at rest 0 ≡ true → ops ≡ []
  unfolding ops_from
  none_first h = rw (none_there rest 0 h) refl

  -- so there the manual's block is the ops in front of it and no others, and none forms where it stands first
  pub ends_before_missed : form_judged 1 (length memory) (length lent) base address ≡ done → meets_missed memory base address ≡ true
      → form_call 1 memory base address lent ≡ cond (missed_at rest 0) (Err NoOp, lent) (done, block_record address ops)
  unfolding form_call reading_of byte_len
  ends_before_missed judged h = rw judged (by (missed_at rest 0) refl ops none_first (short_goes_on h).0)
    where
      by : (b : Bool) → missed_at rest 0 ≡ b → (found : List Insn) → (missed_at rest 0 ≡ true → found ≡ []) → missed_at rest (byte_len found) ≡ true
          → formed_into done address found lent ≡ cond b (Err NoOp, lent) (done, block_record address found)
      by true e found first h = rw (first e) refl
      by false e [] first h = absurd (true_false h e)
      by false e (op ∷ found) first h = refl
