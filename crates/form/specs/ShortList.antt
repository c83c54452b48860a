-- Forming by the list of reserved halfwords that was short (crates/agree/specs/ShortList.antt), to be held against forming in the manual's reading.
-- Assumes nothing.
use Rattle.std.specs.Prelude.{ℕ, Bool, false, List, length}
use Rattle.op.specs.Reading.{Reading}
use Rattle.agree.specs.Differences.{listed}
use Rattle.agree.specs.ShortList.{missed_entries, short_half}
use Rattle.reading.specs.Readings.{manual}
use Rattle.form.specs.Forming.{formed}
use Rattle.form.specs.Walk.{stands_at, walk_meets}
use Rattle.form.specs.Call.{form_judged, formed_into}
use Rattle.answer.specs.Answer.{Answer}

abbrev pub short : Reading
short = record { of_word = manual.of_word; of_half = short_half }

-- the form call, if it read so in the place of the manual's reading
abbrev pub form_short : List ℕ → ℕ → ℕ → List ℕ → Answer (Unit {0}) × List ℕ
form_short memory base address lent =
    formed_into (form_judged 1 (length memory) (length lent) base address) address (formed short memory base address) lent

-- a halfword that the list missed stands at an offset of s
abbrev pub missed_at : List ℕ → ℕ → Bool
missed_at = stands_at (listed missed_entries) (λ w. false)

-- the walk from an address, in the manual's reading, meets one
abbrev pub meets_missed : List ℕ → ℕ → ℕ → Bool
meets_missed = walk_meets missed_at manual
