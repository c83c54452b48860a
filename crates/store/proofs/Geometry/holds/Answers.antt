-- `store::Geometry::holds` meets its contract: one comparison is both bounds, since memory ends below 2 ^ 56.
use Rattle.std.proofs.Common.{arith}
use Rattle.store.proofs.Known.{held_by}
use Rattle.store.proofs.Geometry.holds.Goals as goal

pub returns : goal.returns
returns c = held_by c.args.self c.args.address _ c.requires (omega arith) (omega (arith, c.requires.below))
