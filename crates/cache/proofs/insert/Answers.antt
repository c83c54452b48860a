-- `cache::insert` meets its contract: decided first, then written.
use Rattle.std.proofs.Common.{sym}
use Rattle.store.proofs.Held.{place_long}
use Rattle.cache.proofs.Checks.{insert_taken, opened-fits}
use Rattle.cache.proofs.insert.Goals as goal

pub insert_in-requires : goal.insert_in-requires
insert_in-requires c =
    let w = insert_taken _ _ _ _ (sym c.in_ok-g.ensures) in
    (opened-fits _ _ w.sound, (w.inner, place_long _ _ _ w.sound w.whole))
