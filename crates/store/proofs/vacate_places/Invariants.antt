use Rattle.store.specs.Places.{vacated}
use Rattle.store.proofs.Places.{Walking}
use Rattle.store.proofs.vacate_places.Given as goal

-- the first _i places have the address, and `at` is where the next begins
abbrev pub invariant-loop-i : goal.invariant-loop-i
invariant-loop-i l = Walking vacated l.first l.stride l.fn.store l.store l._i l.at
