-- `store::wipe` meets its contract: zeros behind the header, and then an empty place's address for each.
use Rattle.std.proofs.Common.{◌∙◌}
use Rattle.store.proofs.View.{wiped}
use Rattle.store.proofs.wipe.Goals as goal

pub returns : goal.returns
returns c =
    c.vacate_places.ensures
    ∙ rw (c.slots.ensures.0, c.front.ensures.0, c.clear_from.ensures) (wiped c.args.g c.args.store.now c.requires)
