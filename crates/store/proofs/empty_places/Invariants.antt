use Rattle.std.proofs.Common.{◌≡◌}
use Rattle.store.specs.Places.{emptied, places_in}
use Rattle.store.proofs.Places.{Walking}
use Rattle.store.proofs.empty_places.Given as goal

-- the first _i places are done and counted, and `at` is where the next begins
abbrev pub invariant-loop-i : goal.invariant-loop-i
invariant-loop-i l =
    Walking (emptied l.page) l.first l.stride l.fn.store l.store l._i l.at × (l.dropped ≡ places_in l.page l.first l.stride l._i l.fn.store)
