-- The record of ops that are well formed where they stand is well formed.
-- Assumes nothing.
use mathlib.Core.Path.{◌≡◌, refl, sym, ap, ap₂, ◌∙◌}
use mathlib.Core.Bool.{true, ◌||◌, not}
use mathlib.Core.List.{List, [], ◌∷◌, ◌++◌}
use Prim.Native.Nat.{ℕ, suc, ◌+◌, ◌-◌, ◌*◌, ◌/◌, ◌%◌, ◌^◌, ◌≤◌, ◌<◌}
use native.Mathlib.Omega.{arith}
use native.Mathlib.Nat.{mod-eq_of_lt}
use lib.Dec.{eqb}
use lib.ListN.{length, drop, replicate, length-append, length-replicate}
use borrow.Author.Tests.{eq-eqb}
use Rattle.bits.specs.Bytes.{le, patch, halfword_at}
use Rattle.bits.proofs.Bytes.{length-le, halfword_le, doubleword_le, patch-append, le_cons}
use Rattle.op.specs.Record.{op_fields, op_record}
use Rattle.op.specs.WellFormed.{op_well_formed}
use Rattle.op.specs.declared.Op.{Op}
use Rattle.op.proofs.Record.{length_record}
use Rattle.block.specs.Record.{Insn, insn, op_records, byte_len, head_bytes, block_record}
use Rattle.block.specs.WellFormed.{jumps, placed, ops_well_formed, well_formed}
use Rattle.block.proofs.Head.{Head, decides}

-- count and byte_len, with four zeros, as one number
counts_le : (count len : ℕ) → count < 2 ^ 16 → len < 2 ^ 16 → le 8 (count + 65536 * len) ≡ le 2 count ++ (le 2 len ++ le 4 0)
unfolding le
counts_le count len hc hl =
    let sum : count + 65536 * len ≡ count % 256 + 256 * (count / 256 % 256 + 256 * (len % 256 + 256 * (len / 256 % 256 + 256 * 0))) = omega arith in
    ap (le 8) sum
    ∙ le_cons 7 (count % 256) _ (omega arith)
    (le_cons 6 (count / 256 % 256) _ (omega arith) (le_cons 5 (len % 256) _ (omega arith) (le_cons 4 (len / 256 % 256) 0 (omega arith) refl)))

-- a head is written as two numbers
pub head_put : (s : List ℕ) (address count len : ℕ) → count < 2 ^ 16 → len < 2 ^ 16 → 16 ≤ length s
    → patch (patch s 0 (le 8 address)) 8 (le 8 (count + 65536 * len)) ≡ patch s 0 (head_bytes address count len)
head_put s address count len hc hl long =
    let at : 8 ≡ 0 + length (le 8 address) = omega (arith, length-le 8 address) in
    ap₂ (patch (patch s 0 (le 8 address))) at (counts_le count len hc hl)
    ∙ sym (patch-append s 0 (le 8 address) (le 2 count ++ (le 2 len ++ le 4 0)) (rw length-le (omega arith)))

pub length-op_records : (at : ℕ) (ops : List Insn) → length (op_records at ops) ≡ 16 * length ops
unfolding op_records
length-op_records at [] = refl
length-op_records at (insn op ilen ∷ rest) =
    let more : 16 + 16 * length rest ≡ 16 * suc (length rest) = omega arith in
    length-append (op_record op ilen at) (op_records (at + ilen) rest)
    ∙ ap (λ (n : ℕ). n + length (op_records (at + ilen) rest)) (length_record op ilen at)
    ∙ ap (λ (n : ℕ). 16 + n) (length-op_records (at + ilen) rest)
    ∙ more

-- the walk passes an op that is well formed where it stands
pub walk_record : (op : Op) (ilen at : ℕ) (rest : List Insn) (tail : List ℕ) (len : ℕ) → op_well_formed (op_record op ilen at) ≡ true → at < 2 ^ 16
    → (eqb (length rest) 0 || not (jumps (op_fields op).op)) ≡ true
    → ops_well_formed (op_records at (insn op ilen ∷ rest) ++ tail) (suc (length rest)) at len ≡ ops_well_formed (op_records (at + ilen) rest ++ tail) (length rest) (at + ilen) len
unfolding op_records ops_well_formed placed le
walk_record op ilen at rest tail len w h j =
    let off : halfword_at (le 2 at) 0 ≡ at = halfword_le at [] ∙ mod-eq_of_lt h in
    rw (w, eq-eqb _ _ off, j)

module _ (address : ℕ) (ops : List Insn) (a : address < 2 ^ 64) (some : 1 ≤ length ops) (few : length ops ≤ 64) (b : address % 4096 + byte_len ops ≤ 4096) where
  record_head : Head (block_record address ops) address
  unfolding block_record le
  record_head =
      let rest = op_records 0 ops ++ replicate (1024 - 16 * length ops) 0 in
      let count : halfword_at (le 2 (length ops)) 0 ≡ length ops = halfword_le (length ops) [] ∙ mod-eq_of_lt (omega arith) in
      let len : halfword_at (le 2 (byte_len ops)) 0 ≡ byte_len ops = halfword_le (byte_len ops) [] ∙ mod-eq_of_lt (omega arith) in
      let long : length rest ≡ 1024 = length-append (op_records 0 ops) (replicate (1024 - 16 * length ops) 0) ∙ omega (arith, length-op_records 0 ops, length-replicate {A = ℕ} (1024 - 16 * length ops) 0) in
      record {
        long = omega arith;
        addressed = doubleword_le address [] ∙ mod-eq_of_lt a;
        zeros = refl;
        some = rw count some;
        few = rw count few;
        in_page = rw len b;
      }

  pub record_well : ops_well_formed (op_records 0 ops ++ replicate (1024 - 16 * length ops) 0) (length ops) 0 (byte_len ops) ≡ true → well_formed (block_record address ops) address ≡ true
  unfolding block_record le
  record_well w =
      let count : halfword_at (le 2 (length ops)) 0 ≡ length ops = halfword_le (length ops) [] ∙ mod-eq_of_lt (omega arith) in
      let len : halfword_at (le 2 (byte_len ops)) 0 ≡ byte_len ops = halfword_le (byte_len ops) [] ∙ mod-eq_of_lt (omega arith) in
      decides record_head ∙ rw (count, len) w

-- a record tells how many ops it has, and their records
pub record_tells : (address : ℕ) (ops other : List Insn) → length ops ≤ 64 → length other ≤ 64 → block_record address ops ≡ block_record address other
    → (length ops ≡ length other) × (op_records 0 ops ++ replicate (1024 - 16 * length ops) 0 ≡ op_records 0 other ++ replicate (1024 - 16 * length other) 0)
unfolding block_record le
record_tells address ops other few few' e =
    let counted : (l : List Insn) → length l ≤ 64 → halfword_at (block_record address l) 8 ≡ length l = λ l h. halfword_le (length l) [] ∙ mod-eq_of_lt (omega arith) in
    (sym (counted ops few) ∙ ap (λ (s : List ℕ). halfword_at s 8) e ∙ counted other few', ap (drop 16) e)
