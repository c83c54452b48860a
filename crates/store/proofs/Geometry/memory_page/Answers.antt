-- `store::Geometry::memory_page` meets its contract: an address in memory is not below the base.
use Rattle.std.proofs.Common.{refl}
use Rattle.store.proofs.Known.{holds_are, page-lt}
use Rattle.store.proofs.Geometry.memory_page.Goals as goal

pub overflow_sub-result : goal.overflow_sub-result
overflow_sub-result c = (holds_are _ _ c.requires).0

pub returns : goal.returns
returns c = (refl, page-lt c.args.self c.args.address c.requires)
