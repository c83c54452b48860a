-- What stands beside the number of the cache's own answers: zeros at every number but 0.
-- Assumes nothing.
use Rattle.std.specs.Prelude.{ℕ, List, [], Ok, Err}
use Rattle.bits.specs.Bytes.{part}
use Rattle.answer.specs.Answer.{Answer}
use Rattle.cache.specs.declared.Hit.{Hit}
use Rattle.cache.specs.declared.Report.{Report}

-- the answer of a lookup that hits: the part's place, and its length
abbrev pub hit_at : ℕ → ℕ → Answer Hit
hit_at at len = Ok (record { at = at; len = len })

-- where in the store the part begins
abbrev pub lookup_value : Answer Hit → ℕ
lookup_value (Ok hit) = hit.at
lookup_value (Err why) = 0

-- the part of the store that a lookup returns
abbrev pub lookup_part : List ℕ → Answer Hit → List ℕ
lookup_part s (Ok hit) = part s hit.at hit.len
lookup_part s (Err why) = []

-- no slot examined, no place dropped
abbrev pub nothing_done : Report
nothing_done = record { examined = 0; dropped = 0 }

-- what was done, as the answer of a notice says, of a list of them, or of a guest write
abbrev pub reported : Answer Report → Report
reported (Ok report) = report
reported (Err why) = nothing_done
