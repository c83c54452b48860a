-- `reading::word_apart` meets its contract.
use Rattle.std.proofs.Common.{refl, arith}
use borrow.Author.Tests.{ne_eqb}
use Rattle.reading.specs.Readings.{reading_of}
use Rattle.reading.proofs.Parted.{other_alike}
use Rattle.reading.proofs.word_apart.Goals as goal

pub returns-then-reading-ne-MANUAL : goal.returns-then-reading-ne-MANUAL
unfolding reading_of
returns-then-reading-ne-MANUAL c = rw (ne_eqb c.args.reading 1 c.if-reading-ne-MANUAL.true) refl

pub returns-in-4 : goal.returns-in-4
unfolding reading_of
returns-in-4 c = rw c.if-reading-ne-MANUAL.false c.imm_apart.ensures

pub returns-in-12 : goal.returns-in-12
unfolding reading_of
returns-in-12 c = rw c.if-reading-ne-MANUAL.false c.reg_apart.ensures

pub returns-in_default : goal.returns-in_default
unfolding reading_of
returns-in_default c = rw c.if-reading-ne-MANUAL.false (other_alike c.args.raw (omega arith) (omega arith))
