-- `lines::list` ends: each turn goes on by at least one byte.
use Rattle.std.proofs.Common.{◌-◌}
use Rattle.lines.proofs.list.Given as goal

abbrev pub decreases-loop-at : goal.decreases-loop-at
decreases-loop-at g l = 4096 - l.at
