-- The walk over the ops, from the first that is left on.
-- Assumes nothing.
use mathlib.Core.Path.{◌≡◌, refl}
use mathlib.Core.Bool.{Bool, true, false, ◌&&◌, ◌||◌}
use mathlib.Core.List.{List}
use Prim.Native.Nat.{ℕ, zero, suc, ◌+◌, ◌-◌, ◌≤◌, ◌<◌}
use native.Mathlib.Omega.{arith}
use lib.Dec.{eqb, leb}
use borrow.Author.Tests.{eqb-true}
use lib.ListN.{take, drop, get_or}
use lib.Seq.{get_or-take}
use Rattle.op.specs.WellFormed.{op_well_formed}
use Rattle.block.specs.WellFormed.{all_zero, placed, ops_well_formed}

-- an op and those behind it; `op` and `behind` are the bytes as the loop has them, and `ilen` is the op's length
pub walk_step : (s : List ℕ) (n at len : ℕ) {op behind : List ℕ} {ilen : ℕ} → 0 < n → op ≡ take 16 s → behind ≡ drop 16 s → ilen ≡ get_or op 5 0
    → ops_well_formed s n at len ≡ (placed op at (n - 1) && ops_well_formed behind (n - 1) (at + ilen) len)
unfolding ops_well_formed
walk_step s zero at len h e f i = absurd (omega arith)
walk_step s (suc n) at len h e f i =
    let one : suc n - 1 ≡ n = omega arith in
    rw (one, i, e, f, get_or-take 16 s 5 0 (omega arith)) refl

-- no op is left
pub walk_end : (s : List ℕ) (n at len : ℕ) → n ≤ 0 → ops_well_formed s n at len ≡ (eqb at len && all_zero s)
unfolding ops_well_formed
walk_end s zero at len h = refl
walk_end s (suc n) at len h = absurd (omega arith)

-- an op in its place has at most four bytes
pub placed_short : (o : List ℕ) (at left : ℕ) → placed o at left ≡ true → get_or o 5 0 ≤ 4
unfolding placed op_well_formed
placed_short o at left h = by (leb (get_or o 0 0) 9) (eqb (get_or o 5 0) 4) (eqb (get_or o 5 0) 2) _ _ _ _ refl refl h
  where
    by : (a b c d e f g : Bool) → eqb (get_or o 5 0) 4 ≡ b → eqb (get_or o 5 0) 2 ≡ c → ((((a && (b || (c && d))) && e) && f) && g) ≡ true → get_or o 5 0 ≤ 4
    by true true c d e f g p q h = let is = eqb-true (get_or o 5 0) 4 p in omega arith
    by true false true d e f g p q h = let is = eqb-true (get_or o 5 0) 2 q in omega arith
    by true false false d e f g p q h = cc
    by false b c d e f g p q h = cc
