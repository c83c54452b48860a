-- The pages of a list of addresses, and what notices in them report by one store: each page once.
-- Assumes nothing.
use Rattle.std.specs.Prelude.{ℕ, ◌/◌, Bool, false, cond, ◌||◌, List, [], ◌∷◌, eqb}
use Rattle.cache.specs.Answers.{nothing_done, reported}
use Rattle.cache.specs.Calls.{summed, notice_call}
use Rattle.cache.specs.declared.Report.{Report}

-- some address of the list lies in a page, which is counted from address 0
unfoldable pub names : List ℕ → ℕ → Bool
names [] page = false
names (a ∷ rest) page = eqb (a / 4096) page || names rest page

-- what one notice for each of these pages reports, each by the same store
unfoldable pub report_once : List ℕ → List ℕ → Report
report_once s [] = nothing_done
report_once s (a ∷ rest) = cond (names rest (a / 4096)) (report_once s rest) (summed (reported (notice_call s a).0) (report_once s rest))
