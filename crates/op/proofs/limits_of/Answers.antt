-- `op::limits_of` meets its contract: the tables are compared at each op number.
use mathlib.Core.Path.{◌≡◌}
use Prim.Native.Nat.{ℕ, suc, ◌≤◌}
use native.Mathlib.Omega.{arith}
use Rattle.bits.proofs.Every.{decide}
use Rattle.op.specs.WellFormed.{limits}
use Rattle.op.proofs.limits_of.Goals as goal

-- a number from k on is k or more
from : (x k : ℕ) {P : Type 0} → k ≤ x → (x ≡ k → P) → (suc k ≤ x → P) → P
from x k h this next = decide x k this (λ n. next (omega arith))

pub returns : goal.returns
unfolding limits
returns c =
    let op = c.args.op in
    from op 0 (omega arith) (λ e. rw e)
    (λ h. from op 1 h (λ e. rw e)
    (λ h. from op 2 h (λ e. rw e)
    (λ h. from op 3 h (λ e. rw e)
    (λ h. from op 4 h (λ e. rw e)
    (λ h. from op 5 h (λ e. rw e)
    (λ h. from op 6 h (λ e. rw e)
    (λ h. from op 7 h (λ e. rw e)
    (λ h. from op 8 h (λ e. rw e)
    (λ h. from op 9 h (λ e. rw e)
    (λ h. absurd (omega (arith, c.requires))))))))))))
