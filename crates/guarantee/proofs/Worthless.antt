-- None of the worthless programs answers as the guarantee has it: for each a short list of accepted calls where it does not.
-- Assumes nothing.
use mathlib.Core.Path.{◌≡◌, refl, ap}
use mathlib.Core.List.{List, [], ◌∷◌}
use mathlib.Core.Option.{Option, none, some}
use Prim.Native.Nat.{ℕ, ◌+◌, ◌*◌}
use native.Mathlib.Omega.{arith}
use lib.IntN.{pos}
use lib.ListN.{get_or}
use Rattle.bits.specs.Bytes.{le}
use Rattle.bits.proofs.Count.{some-count}
use Rattle.op.specs.declared.Op.TheVariants.{AluImm}
use Rattle.op.specs.declared.AluKind.TheVariants.{Add}
use Rattle.op.specs.WellFormed.{limits, op_well_formed}
use Rattle.block.specs.Record.{insn, op_records, byte_len, block_record}
use Rattle.block.specs.WellFormed.{all_zero, placed, ops_well_formed, well_formed}
use Rattle.store.specs.Layout.{geometry, holds, slot_of}
use Rattle.store.proofs.Known.{slot_lt}
use Rattle.history.specs.History.{inserted, touched, insertions, total, anything, shown, marked}
use Rattle.history.proofs.Sentences.{no_some}
use Rattle.history.proofs.Dropped.{dropped_bound}
use Rattle.guarantee.specs.Calls.{insert, notice, make, uses}
use Rattle.guarantee.specs.Past.{unmade, since, page_of, events, past}
use Rattle.guarantee.specs.Answers.{live}
use Rattle.guarantee.specs.Worthless.{ShowsRight, CountsRight, slots_due, drops_due, keeps_nothing, first_kept, keeps_first, untouched, empties_all, always_all, always_none}
use Rattle.guarantee.proofs.Simulation.{first_of, in_page_lem, its_page}

-- a block of one op, ADDI x1, x1, n, at address 0
block : ℕ → List ℕ
block n = block_record 0 (insn (AluImm Add 1 1 (pos n)) 2 ∷ [])

-- the low byte of its immediate
imm_of : Option (List ℕ) → ℕ
imm_of none = 0
imm_of (some r) = get_or r 24 0

-- a store of four slots for two pages; then a block in it, another in its place, a notice in the other page
new : past 4200 8192 unmade (make 0 2 0 2 ∷ []) ≡ since (geometry 0 2 0 2) []
unfolding past
new = refl

one : past 4200 8192 unmade (uses (insert 0 (block 1)) ∷ make 0 2 0 2 ∷ []) ≡ since (geometry 0 2 0 2) (inserted 0 (block 1) ∷ [])
unfolding past events block block_record op_records byte_len well_formed ops_well_formed placed op_well_formed limits all_zero le holds
one = refl

two : past 4200 8192 unmade (uses (insert 0 (block 2)) ∷ uses (insert 0 (block 1)) ∷ make 0 2 0 2 ∷ []) ≡ since (geometry 0 2 0 2) (inserted 0 (block 2) ∷ inserted 0 (block 1) ∷ [])
unfolding past events block block_record op_records byte_len well_formed ops_well_formed placed op_well_formed limits all_zero le holds
two = refl

noticed : past 4200 8192 unmade (uses (notice 4096) ∷ uses (insert 0 (block 1)) ∷ make 0 2 0 2 ∷ []) ≡ since (geometry 0 2 0 2) (touched 1 ∷ inserted 0 (block 1) ∷ [])
unfolding past events block block_record op_records byte_len well_formed ops_well_formed placed op_well_formed limits all_zero le holds
noticed = refl

pub keeps_nothing_lem : ShowsRight keeps_nothing → ⊥
unfolding shown
keeps_nothing_lem right = no_some (block 1) (right 4200 8192 _ (geometry 0 2 0 2) _ one 0)

pub keeps_first_lem : ShowsRight keeps_first → ⊥
unfolding shown first_kept insertions imm_of block block_record op_records le
keeps_first_lem right =
    let same : some (block 1) ≡ some (block 2) = right 4200 8192 _ (geometry 0 2 0 2) _ two 0 in
    let imm : ◌≡◌ {A = ℕ} 1 2 = ap imm_of same in
    omega arith

pub empties_all_lem : ShowsRight empties_all → ⊥
unfolding shown untouched
empties_all_lem right = no_some (block 1) (right 4200 8192 _ (geometry 0 2 0 2) _ noticed 0)

pub always_all_lem : CountsRight slots_due always_all → ⊥
unfolding marked
always_all_lem right = let none_due : ◌≡◌ {A = ℕ} 4 0 = right 4200 8192 _ (geometry 0 2 0 2) _ new 0 in omega arith

pub always_none_lem : CountsRight slots_due always_none → ⊥
unfolding marked
always_none_lem right = let all_due : ◌≡◌ {A = ℕ} 0 4 = right 4200 8192 _ (geometry 0 2 0 2) _ one 0 in omega arith

-- the block that is there is dropped, and it alone
pub never_drops : CountsRight drops_due always_none → ⊥
unfolding shown
never_drops right =
    let none_due : 0 ≡ live (geometry 0 2 0 2) (inserted 0 (block 1) ∷ []) 0 = right 4200 8192 _ (geometry 0 2 0 2) _ one 0 in
    omega (arith, some-count 4096 (λ k. anything (shown (slot_of (geometry 0 2 0 2)) page_of (inserted 0 (block 1) ∷ []) (4096 * 0 + k))) (record { at = 0; below = omega arith; passes = refl }))

pub slots_as_drops : CountsRight drops_due slots_due → ⊥
unfolding marked total insertions
slots_as_drops right =
    let all_due : 4 ≡ live (geometry 0 2 0 2) (inserted 0 (block 1) ∷ []) 0 = right 4200 8192 _ (geometry 0 2 0 2) _ one 0 in
    omega (arith, dropped_bound (slot_of (geometry 0 2 0 2)) page_of 4 (slot_lt (geometry 0 2 0 2)) first_of 4096 in_page_lem its_page (touched 0 ∷ inserted 0 (block 1) ∷ []))
