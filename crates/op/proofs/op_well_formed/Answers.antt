-- `op::op_well_formed` meets its contract.
use mathlib.Core.Path.{sym, ◌∙◌}
use borrow.Author.Tests.{le-leb, lt-leb}
use Rattle.op.specs.WellFormed.{op_well_formed}
use Rattle.op.proofs.op_well_formed.Goals as goal

pub returns-then-op-gt-FALLBACK : goal.returns-then-op-gt-FALLBACK
unfolding op_well_formed
returns-then-op-gt-FALLBACK c = rw (lt-leb _ _ c.if-op-gt-FALLBACK.true)

pub returns-then-ilen_known : goal.returns-then-ilen_known
unfolding op_well_formed
returns-then-ilen_known c =
    rw (le-leb _ _ c.if-op-gt-FALLBACK.false, sym c.ilen_known.ensures ∙ c.if-ilen_known.true, ← c.limits_of.ensures) c.within.ensures

pub returns : goal.returns
unfolding op_well_formed
returns c = rw (le-leb _ _ c.if-op-gt-FALLBACK.false, sym c.ilen_known.ensures ∙ c.if-ilen_known.false)
