-- `op::kind_at` meets its contract: in the last arm the number is none of the others, so it lies past the list.
use Rattle.std.proofs.Common.{◌≤◌, sym, map, Some, None, arith}
use lib.ListN.{get_or-eq_default}
use Rattle.op.specs.Kinds.{alu_kinds}
use Rattle.op.proofs.kind_at.Goals as goal

pub returns-in_default : goal.returns-in_default
returns-in_default c =
    let past : 58 ≤ c.args.n = omega arith in
    sym (get_or-eq_default (map Some alu_kinds) None past)
