use Rattle.std.proofs.Common.{◌≡◌, ◌≤◌, length, drop, ◌+◌, ◌*◌}
use Rattle.block.specs.WellFormed.{ops_well_formed}
use Rattle.block.proofs.ops_well_formed.Given as goal

-- the ops that are left decide as all of them do
abbrev pub invariant-loop-left : goal.invariant-loop-left
invariant-loop-left l =
    (ops_well_formed l.rest l.left l.at l.byte_len ≡ ops_well_formed (drop 16 l.«record») l.count 0 l.byte_len)
    × (16 * l.left ≤ length l.rest)
    × (l.at + 255 * l.left ≤ 255 * l.count)
