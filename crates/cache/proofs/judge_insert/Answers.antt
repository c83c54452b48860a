-- `cache::judge_insert` meets its contract: the four tests in their order.
use Rattle.std.proofs.Common.{arith}
use Rattle.cache.proofs.Checks.{opened-fits}
use Rattle.cache.proofs.judge_insert.Goals as goal

pub holds-requires : goal.holds-requires
holds-requires c = (opened-fits c.args.store.now c.in_ok-g.g (grind arith)).bounds
