-- Sums of reports.
-- Assumes nothing.
use mathlib.Core.Path.{◌≡◌, ap₂}
use Prim.Native.Nat.{ℕ}
use native.Mathlib.Omega.{arith}
use Rattle.cache.specs.Answers.{nothing_done}
use Rattle.cache.specs.Calls.{summed}
use Rattle.cache.specs.declared.Report.{Report}

pub same_report : {p q : Report} → p.examined ≡ q.examined → p.dropped ≡ q.dropped → p ≡ q
same_report e d = ap₂ (λ (n k : ℕ). record { examined = n; dropped = k }) e d

pub summed-none : (r : Report) → summed nothing_done r ≡ r
summed-none r = same_report (omega arith) (omega arith)

pub none-summed : (r : Report) → summed r nothing_done ≡ r
none-summed r = same_report (omega arith) (omega arith)

pub summed_assoc : (p q r : Report) → summed (summed p q) r ≡ summed p (summed q r)
summed_assoc p q r = same_report (omega arith) (omega arith)

pub summed_comm : (p q : Report) → summed p q ≡ summed q p
summed_comm p q = same_report (omega arith) (omega arith)
