-- `replay::Machine::replay` counts no more than its entries.
use Rattle.std.proofs.Common.{◌≤◌}
use Rattle.replay.proofs.Machine.replay.Given as goal

abbrev pub invariant-loop-i : goal.invariant-loop-i
invariant-loop-i g l = l.good ≤ l._i
