-- `cache::find` meets its contract: the header's geometry says where to look.
use Rattle.std.proofs.Common.{arith}
use Rattle.store.specs.Layout.{Fitting}
use Rattle.cache.proofs.Checks.{opened-fits, slot_fits}
use Rattle.cache.proofs.find.Goals as goal

pub holds-requires : goal.holds-requires
holds-requires c = (opened-fits c.args.store.now c.in_ok-g.g (grind arith)).bounds

pub place-at-requires : goal.place-at-requires
place-at-requires c = (opened-fits c.args.store.now c.in_ok-g.g (grind arith)).bounds

pub doubleword_at-requires : goal.doubleword_at-requires
doubleword_at-requires c =
    let f : Fitting c.in_ok-g.g c.args.store.now = opened-fits _ _ (grind arith) in
    omega (arith, slot_fits _ _ c.args.address f, f.bounds, c.place-at.ensures)
