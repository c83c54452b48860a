-- `cache::notice` meets its contract: the header, and then the notice.
use Rattle.std.proofs.Common.{arith}
use Rattle.cache.proofs.Checks.{opened-fits}
use Rattle.cache.proofs.notice.Goals as goal

pub notice_in-requires : goal.notice_in-requires
notice_in-requires c = opened-fits _ _ (grind arith)
