-- `cache::flush` meets its contract: the header, and then all places.
use Rattle.std.proofs.Common.{arith}
use Rattle.cache.proofs.Checks.{opened-fits}
use Rattle.cache.proofs.flush.Goals as goal

pub wipe-requires : goal.wipe-requires
wipe-requires c = opened-fits _ _ (grind arith)
