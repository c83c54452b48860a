-- The forming loop, in any reading: what is left to write (`Left`) at the start, after a step and at the end.
-- Assumes nothing.
use mathlib.Core.Path.{◌≡◌, refl, sym, ap, ◌∙◌}
use mathlib.Core.Bool.{cond}
use mathlib.Core.List.{List, [], ◌∷◌}
use Prim.Native.Nat.{ℕ, suc, ◌+◌, ◌-◌, ◌*◌, ◌≤◌, ◌<◌}
use native.Mathlib.Omega.{arith}
use lib.ListN.{length}
use Rattle.bits.specs.Bytes.{patch}
use Rattle.bits.proofs.Bytes.{length-patch, patch-append, patch_nothing}
use Rattle.op.specs.Reading.{Reading}
use Rattle.op.specs.Record.{op_fields, op_record}
use Rattle.op.specs.declared.Op.{Op}
use Rattle.op.proofs.Record.{length_record}
use Rattle.block.specs.Record.{Insn, insn, op_records, byte_len}
use Rattle.block.specs.WellFormed.{jumps}
use Rattle.form.specs.Forming.{ilen_at, op_at, ops_from}
use Rattle.form.specs.Written.{Written}
use Rattle.std.specs.Prelude.{Some, None}

module _ (r : Reading) (s : List ℕ) (n at : ℕ) where
  pub ops_full : 64 ≤ n → ops_from r s (64 - n) at ≡ []
  unfolding ops_from
  ops_full h = let e : 64 - n ≡ 0 = omega arith in rw e

  pub ops_stop : n < 64 → op_at r s at ≡ None → ops_from r s (64 - n) at ≡ []
  unfolding ops_from
  ops_stop h e = let more : 64 - n ≡ suc (64 - (n + 1)) = omega arith in rw (more, e)

  pub ops_kept : n < 64 → (op : Op) (ilen : ℕ) → op_at r s at ≡ Some op → ilen_at s at ≡ ilen
      → ops_from r s (64 - n) at ≡ insn op ilen ∷ cond (jumps (op_fields op).op) [] (ops_from r s (64 - (n + 1)) (at + ilen))
  unfolding ops_from
  ops_kept h op ilen e l = let more : 64 - n ≡ suc (64 - (n + 1)) = omega arith in rw (more, e, l)

pub record Left (all rest : List Insn) (old lent : List ℕ) (count at : ℕ) : Type 0 where
  pub bytes : patch lent (16 + count * 16) (op_records at rest) ≡ patch old 16 (op_records 0 all)
  pub counted : count + length rest ≡ length all
  pub ended : at + byte_len rest ≡ byte_len all
  pub room : length lent ≡ 1040

pub start : (all : List Insn) (old : List ℕ) → length old ≡ 1040 → Left all all old old 0 0
start all old e = record { bytes = refl; counted = omega arith; ended = omega arith; room = e }

pub step : {all rest : List Insn} {old lent : List ℕ} {count at ilen : ℕ} (op : Op) (wrote : List ℕ) → wrote ≡ patch lent (16 + count * 16) (op_record op ilen at)
    → count < 64 → Left all (insn op ilen ∷ rest) old lent count at → Left all rest old wrote (count + 1) (at + ilen)
unfolding op_records byte_len
step {all} {rest} {old} {lent} {count} {at} {ilen} op wrote e h m =
    let place = 16 + count * 16 in
    let l = length_record op ilen at in
    let next : place + length (op_record op ilen at) ≡ 16 + (count + 1) * 16 = omega (arith, l) in
    let fits : place + length (op_record op ilen at) ≤ length lent = omega (arith, l, m.room) in
    rw e
    (record {
      bytes =
          ap (λ (k : ℕ). patch (patch lent place (op_record op ilen at)) k (op_records (at + ilen) rest)) (sym next)
          ∙ sym (patch-append lent place (op_record op ilen at) (op_records (at + ilen) rest) fits)
          ∙ m.bytes;
      counted = omega (arith, m.counted);
      ended = omega (arith, m.ended);
      room = length-patch lent place (op_record op ilen at) fits ∙ m.room;
    })

pub finish : {all : List Insn} {old lent : List ℕ} {count at : ℕ} → count ≤ 64 → at ≤ 4096 → Left all [] old lent count at → Written all old lent count at
unfolding op_records byte_len
finish {all} {old} {lent} {count} {at} h k m =
    record {
      counted = omega (arith, m.counted);
      ended = omega (arith, m.ended);
      written = sym (patch_nothing lent (16 + count * 16)) ∙ m.bytes;
      few = h;
      short = k;
    }
