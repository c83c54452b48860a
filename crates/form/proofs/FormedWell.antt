-- A formed record is well formed for its address, in any reading that gives proper ops and no Fallback; both of the calls' readings do.
-- Assumes nothing.
use mathlib.Core.Path.{◌≡◌, refl, sym, ap, ◌∙◌}
use mathlib.Core.Bool.{Bool, true, false, cond, ◌||◌, not, or-true}
use mathlib.Core.List.{List, [], ◌∷◌, ◌++◌}
use Prim.Native.Nat.{ℕ, zero, suc, ◌+◌, ◌-◌, ◌*◌, ◌/◌, ◌%◌, ◌^◌, ◌≤◌, ◌<◌}
use native.Mathlib.Omega.{arith}
use lib.Dec.{eqb}
use lib.ListN.{length, get_or, take, drop, replicate, length-take, length-drop}
use lib.Seq.{get_or-drop}
use borrow.Author.Tests.{eq-eqb}
use Rattle.op.specs.Reading.{Reading}
use Rattle.op.specs.Record.{op_fields}
use Rattle.op.specs.WellFormed.{ilen_known}
use Rattle.op.specs.declared.Op.{Op}
use Rattle.op.specs.Proper.{Proper}
use Rattle.op.proofs.Proper.{proper_well}
use Rattle.block.specs.Memory.{good_memory, in_memory, page_bytes, rest_of_page}
use Rattle.block.specs.Record.{Insn, insn, op_records, byte_len, block_record}
use Rattle.block.specs.WellFormed.{all_zero, jumps, ops_well_formed, well_formed}
use Rattle.block.proofs.Places.{GoodMemory, good_memory_lem, held}
use Rattle.block.proofs.Records.{walk_record, record_well}
use Rattle.block.proofs.Zeros.{zero_all}
use Rattle.reading.specs.Readings.{reading_of}
use Rattle.reading.proofs.Proper.{word_proper, half_proper}
use Rattle.form.specs.ProperReading.{ProperReading}
use Rattle.form.specs.Forming.{ilen_at, op_at, and_then, ops_from, formed}
use Rattle.form.proofs.Kept.{op_by, Within, within}
use Rattle.std.specs.Prelude.{Option, Some, None}

pub reading_proper : (n : ℕ) → ProperReading (reading_of n)
reading_proper n = record { words = word_proper n; halves = half_proper n }

abbrev Well : Option Op → ℕ → Type 0
Well None ilen = Unit {0}
Well (Some op) ilen = Proper op × (ilen_known (op_fields op).op ilen ≡ true)

module _ (r : Reading) (proper : ProperReading r) (s : List ℕ) (byte : (i : ℕ) → get_or s i 0 < 256) where
  op_well : (at : ℕ) → Well (op_at r s at) (ilen_at s at)
  op_well at =
      op_by Well (λ ilen. tt) r s at
      (λ h op e. let o = proper.halves _ op e in (o.1, rw o.0))
      (λ h op e. ((proper.words _ op e).1, refl))
      (λ h. (omega (arith, byte at, byte (at + 1), byte (at + 2), byte (at + 2 + 1)), refl))

-- what holds of the ops from an offset on
record Run (s : List ℕ) (n at : ℕ) (ops : List Insn) : Type 0 where
  pub few : length ops ≤ n
  pub short : at + byte_len ops ≤ length s
  pub well : (tail : List ℕ) → all_zero tail ≡ true → ops_well_formed (op_records at ops ++ tail) (length ops) at (at + byte_len ops) ≡ true

module _ (s : List ℕ) (fits : length s ≤ 4096) (n at : ℕ) (inside : at ≤ length s) where
  no_more : (n : ℕ) → Run s n at []
  unfolding ops_well_formed op_records byte_len
  no_more n =
      let e : at ≡ at + 0 = omega arith in
      record { few = omega arith; short = omega arith; well = λ tail z. rw (eq-eqb at (at + 0) e, z) }

  one_more : (op : Op) (ilen : ℕ) (rest : List Insn) → Well (Some op) ilen → Within s at (Some op) ilen → (eqb (length rest) 0 || not (jumps (op_fields op).op)) ≡ true
      → Run s n (at + ilen) rest → Run s (suc n) at (insn op ilen ∷ rest)
  unfolding byte_len
  one_more op ilen rest w i j run =
      let sum : at + (ilen + byte_len rest) ≡ at + ilen + byte_len rest = omega arith in
      let small : at < 2 ^ 16 = omega arith in
      record {
        few = omega (arith, run.few);
        short = omega (arith, run.short);
        well =
            λ tail z.
            walk_record op ilen at rest tail (at + (ilen + byte_len rest)) (proper_well op ilen at w.0 w.1) small j
            ∙ ap (λ (len : ℕ). ops_well_formed (op_records (at + ilen) rest ++ tail) (length rest) (at + ilen) len) sum
            ∙ run.well tail z;
      }

module _ (s : List ℕ) (fits : length s ≤ 4096) (n at : ℕ) (inside : at ≤ length s) (ilen : ℕ) (next : List Insn) (later : at + ilen ≤ length s → Run s n (at + ilen) next) where
  op_run : (op : Op) → Well (Some op) ilen → Within s at (Some op) ilen → (b : Bool) → jumps (op_fields op).op ≡ b → Run s (suc n) at (insn op ilen ∷ cond b [] next)
  op_run op w i true e = one_more s fits n at inside op ilen [] w i refl (no_more s fits n (at + ilen) i.0 n)
  op_run op w i false e = one_more s fits n at inside op ilen next w i (rw e (or-true (eqb (length next) 0))) (later i.0)

  then_run : (d : Option Op) → Well d ilen → Within s at d ilen → Run s (suc n) at (and_then d ilen next)
  then_run None w i = no_more s fits n at inside (suc n)
  then_run (Some op) w i = op_run op w i (jumps (op_fields op).op) refl

ops_run : (r : Reading) → ProperReading r → (s : List ℕ) → ((i : ℕ) → get_or s i 0 < 256) → length s ≤ 4096 → (n at : ℕ) → at ≤ length s → Run s n at (ops_from r s n at)
unfolding ops_from
ops_run r proper s byte fits zero at inside = no_more s fits 0 at inside 0
ops_run r proper s byte fits (suc n) at inside =
    let ilen = ilen_at s at in
    then_run s fits n at inside ilen (ops_from r s n (at + ilen)) (λ h. ops_run r proper s byte fits n (at + ilen) h) (op_at r s at) (op_well r proper s byte at) (within r s at)

take_byte : (n : ℕ) (s : List ℕ) → ((i : ℕ) → get_or s i 0 < 256) → (i : ℕ) → get_or (take n s) i 0 < 256
take_byte zero s byte i = omega arith
take_byte (suc n) [] byte i = byte i
take_byte (suc n) (b ∷ s) byte zero = byte 0
take_byte (suc n) (b ∷ s) byte (suc i) = take_byte n s (λ k. byte (suc k)) i

module _ (memory : List ℕ) (base address : ℕ) where
  rest_byte : ((i : ℕ) → get_or memory i 0 < 256) → (i : ℕ) → get_or (rest_of_page memory base address) i 0 < 256
  rest_byte byte i =
      let start = (address - base) / 4096 * 4096 in
      rw (get_or-drop (address % 4096) (page_bytes memory base address) i 0)
      (take_byte 4096 (drop start memory) (λ k. rw (get_or-drop start memory k 0) (byte (start + k))) (address % 4096 + i))

  rest_short : length (rest_of_page memory base address) ≤ 4096 - address % 4096
  rest_short = simp (length-drop, length-take) (omega arith)

run_well : (s : List ℕ) (address : ℕ) (ops : List Insn) → Run s 64 0 ops → address < 2 ^ 64 → (length ops ≡ 0 → ⊥) → length s ≤ 4096 - address % 4096 → well_formed (block_record address ops) address ≡ true
run_well s address ops run h some short =
    let least : 1 ≤ length ops = omega arith in
    let in_page : address % 4096 + byte_len ops ≤ 4096 = omega (arith, run.short) in
    let zeros : List ℕ = replicate (1024 - 16 * length ops) 0 in
    let sum : 0 + byte_len ops ≡ byte_len ops = omega arith in
    record_well address ops h least run.few in_page
    (ap (λ (len : ℕ). ops_well_formed (op_records 0 ops ++ zeros) (length ops) 0 len) (sym sum) ∙ run.well zeros (zero_all (1024 - 16 * length ops)))

-- the record of a block that forms is well formed for its address
pub formed_well : (r : Reading) → ProperReading r → (memory : List ℕ) (base address : ℕ) → ((i : ℕ) → get_or memory i 0 < 256)
    → good_memory (length memory) base ≡ true → in_memory (length memory) base address ≡ true → (length (formed r memory base address) ≡ 0 → ⊥)
    → well_formed (block_record address (formed r memory base address)) address ≡ true
formed_well r proper memory base address byte good holds some =
    let s = rest_of_page memory base address in
    let short = rest_short memory base address in
    let g : GoodMemory (length memory) base = good_memory_lem good in
    let h = held (length memory) base address holds in
    run_well s address (formed r memory base address) (ops_run r proper s (rest_byte memory base address byte) (omega arith) 64 0 (omega arith)) (omega arith) some short
