-- Notices, a list of addresses: 1. One notice after the other; what they report is summed.
-- Assumes nothing.
use Rattle.std.specs.Prelude.{ℕ, List, [], ◌∷◌, Option, Some, None, Ok, Err}
use Rattle.store.specs.Layout.{opened}
use Rattle.store.specs.declared.Geometry.{Geometry}
use Rattle.answer.specs.declared.Refusal.TheVariants.{NoStore}
use Rattle.cache.specs.Answers.{nothing_done}
use Rattle.cache.specs.Calls.{noticed_in, report_in, summed}
use Rattle.cache.specs.declared.Report.{Report}
use Rattle.answer.specs.Answer.{Answer}

unfoldable pub noticed_all : Geometry → List ℕ → List ℕ → List ℕ
noticed_all g s [] = s
noticed_all g s (a ∷ rest) = noticed_all g (noticed_in g s a) rest

-- each notice by the store that those before it left
unfoldable pub report_all : Geometry → List ℕ → List ℕ → Report
report_all g s [] = nothing_done
report_all g s (a ∷ rest) = summed (report_in g s a) (report_all g (noticed_in g s a) rest)

abbrev pub notices_by : Option Geometry → List ℕ → List ℕ → Answer Report × List ℕ
notices_by (Some g) s addresses = (Ok (report_all g s addresses), noticed_all g s addresses)
notices_by None s addresses = (Err NoStore, s)

abbrev pub notices_call : List ℕ → List ℕ → Answer Report × List ℕ
notices_call s addresses = notices_by (opened s) s addresses
