-- `cache::generation` meets its contract: the header's number.
use Rattle.std.proofs.Common.{arith}
use Rattle.store.proofs.Known.{opened_says}
use Rattle.cache.proofs.generation.Goals as goal

pub generation-requires : goal.generation-requires
generation-requires c = (opened_says c.args.store.now c.in_ok-ok_or.field-0 (grind arith)).head.long
