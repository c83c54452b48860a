-- `form::form_ops` meets its contract: what is left to write, with what is written, is the whole.
use Rattle.std.proofs.Common.{◌-◌, ◌≤◌, length}
use Rattle.reading.specs.Readings.{reading_of}
use Rattle.form.specs.Forming.{ops_from}
use Rattle.form.proofs.Loop.{Left}
use Rattle.form.proofs.form_ops.Given as goal

abbrev pub invariant-loop-count : goal.invariant-loop-count
invariant-loop-count l =
    Left (ops_from (reading_of l.reading) l.s 64 0) (ops_from (reading_of l.reading) l.s (64 - l.count) l.at) l.initial.lent l.lent l.count l.at × (l.count ≤ 64) × (l.at ≤ length l.s)
