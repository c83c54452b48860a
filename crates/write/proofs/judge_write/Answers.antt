-- `write::judge_write` meets its contract: the four tests in their order.
use Rattle.std.proofs.Common.{arith}
use Rattle.cache.proofs.Checks.{opened-fits}
use Rattle.write.proofs.judge_write.Goals as goal

pub overflow_mul-g : goal.overflow_mul-g
overflow_mul-g c = omega (arith, (opened-fits c.args.store.now c.in_ok-g.g (grind arith)).bounds)
