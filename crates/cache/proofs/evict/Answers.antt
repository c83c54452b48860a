-- `cache::evict` meets its contract: the bit, and then a walk over all places.
use Rattle.std.proofs.Common.{◌∙◌}
use Rattle.cache.specs.Calls.{evicted}
use Rattle.cache.proofs.View.{dropped_cleared}
use Rattle.cache.proofs.evict.Goals as goal

pub returns : goal.returns
unfolding evicted
returns c = (
  c.empty_places.ensures.0
      ∙ rw (c.slots.ensures.0, c.front.ensures.0, c.set_bit.ensures, c.memory_page.ensures.0)
      (dropped_cleared _ _ c.requires.0 _ c.requires.1),
  c.empty_places.ensures.1 ∙ rw (c.slots.ensures.0, c.front.ensures.0, c.set_bit.ensures, c.memory_page.ensures.0),
)
