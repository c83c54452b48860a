-- `notices::notices` meets its contract: the header, and then the notices.
use Rattle.std.proofs.Common.{arith}
use Rattle.cache.proofs.Checks.{opened-fits}
use Rattle.notices.proofs.notices.Goals as goal

pub notices_in-requires : goal.notices_in-requires
notices_in-requires c = opened-fits _ _ (grind arith)
