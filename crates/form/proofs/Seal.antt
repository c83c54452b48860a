-- From the ops that were written to the call's outcome: none, or the whole record.
-- Assumes nothing.
use mathlib.Core.Path.{◌≡◌, refl, sym, ap, ◌∙◌}
use mathlib.Core.List.{List, [], ◌∷◌, ◌++◌, append_assoc, append-nil}
use Prim.Native.Nat.{ℕ, suc, ◌+◌, ◌-◌, ◌*◌}
use native.Mathlib.Omega.{arith}
use lib.ListN.{length, take, drop, replicate, length-append, length-drop, drop_of_length-le}
use lib.Seq.{length-take-le, take_at, drop_at}
use borrow.Rule.Slice.PartMut.{mid_of, mid_len, put_mid}
use Rattle.answer.specs.declared.Refusal.TheVariants.{NoOp}
use Rattle.bits.specs.Bytes.{le, patch}
use Rattle.bits.proofs.Bytes.{length-patch, patch_nothing}
use Rattle.block.specs.Record.{Insn, head_bytes, op_records, block_record}
use Rattle.block.proofs.Records.{length-op_records}
use Rattle.form.specs.Call.{formed_into}
use Rattle.form.specs.Written.{Written}
use Rattle.answer.specs.Answer.{done}
use Rattle.std.specs.Prelude.{Err}

pub refused : (address : ℕ) (ops : List Insn) (old lent : List ℕ) → length ops ≡ 0 → lent ≡ patch old 16 (op_records 0 ops) → (Err NoOp, lent) ≡ formed_into done address ops old
unfolding op_records
refused address [] old lent n e = ap (λ (s : List ℕ). (Err NoOp, s)) (e ∙ patch_nothing old 16)
refused address (first ∷ rest) old lent n e = absurd (let z : suc (length rest) ≡ 0 = n in omega arith)

some_record : (address : ℕ) (ops : List Insn) (old : List ℕ) → (length ops ≡ 0 → ⊥) → (done, block_record address ops) ≡ formed_into done address ops old
some_record address [] old some = absurd (some refl)
some_record address (first ∷ rest) old some = refl

-- the records, zeros behind them, and then the head
pub sealed : (address : ℕ) (ops : List Insn) (old lent zeros : List ℕ) (n len : ℕ) → (n ≡ 0 → ⊥) → length old ≡ 1040 → Written ops old lent n len
    → zeros ≡ replicate (length (mid_of (16 + n * 16) (1040 - (16 + n * 16)) lent)) 0
    → (done, patch (put_mid (16 + n * 16) (1040 - (16 + n * 16)) lent zeros) 0 (head_bytes address n len)) ≡ formed_into done address ops old
unfolding block_record patch le
sealed address ops old lent zeros n len some l w z =
    let recs = op_records 0 ops in
    let front = take 16 old in
    let tail = drop (16 + length recs) old in
    let many = w.counted in
    let recs_long = length-op_records 0 ops in
    let front_long : length front ≡ 16 = length-take-le 16 old (omega arith) in
    let lent_long : length lent ≡ 1040 = ap length w.written ∙ length-patch old 16 recs (omega (arith, w.few)) ∙ l in
    let both_long : length (front ++ recs) ≡ 16 + n * 16 = simp length-append (omega arith) in
    let lent_is : lent ≡ (front ++ recs) ++ tail = w.written ∙ sym (append_assoc front recs tail) in
    let written : take (16 + n * 16) lent ≡ front ++ recs = ap (take (16 + n * 16)) lent_is ∙ take_at (front ++ recs) tail (16 + n * 16) both_long in
    let none : drop (1040 - (16 + n * 16)) (drop (16 + n * 16) lent) ≡ [] = drop_of_length-le (drop (16 + n * 16) lent) {i = 1040 - (16 + n * 16)} (simp length-drop (omega arith)) in
    let mid : length (mid_of (16 + n * 16) (1040 - (16 + n * 16)) lent) ≡ 1040 - (16 + n * 16) = mid_len (16 + n * 16) 1040 lent (omega arith) in
    let unused : 1040 - (16 + n * 16) ≡ 1024 - 16 * length ops = omega arith in
    let zeros_are : zeros ≡ replicate (1024 - 16 * length ops) 0 = z ∙ ap (λ (k : ℕ). replicate k 0) (mid ∙ unused) in
    let body : drop 16 (put_mid (16 + n * 16) (1040 - (16 + n * 16)) lent zeros) ≡ recs ++ replicate (1024 - 16 * length ops) 0 =
    rw (written, none, append-nil zeros, append_assoc front recs zeros, zeros_are) (drop_at front (recs ++ replicate (1024 - 16 * length ops) 0) 16 front_long) in
    rw (body, many, w.ended) (some_record address ops old (λ e. some (many ∙ e)))
