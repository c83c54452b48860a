-- `alu::orc_b` meets its contract: a turn spreads one byte more.
use Rattle.std.proofs.Common.{arith}
use Rattle.alu.proofs.Bytes.{orced-none, orced_more}
use Rattle.alu.proofs.orc_b.Goals as goal

pub loop-i-init : goal.loop-i-init
loop-i-init c = (omega arith, orced-none c.args.x)

pub loop-i-preserved : goal.loop-i-preserved
loop-i-preserved c =
    let l = c.loop-i in
    (omega arith, orced_more c.args.x l.i l.result c.spread.result c.loop-i-test.true l.invariant.1 c.spread.ensures)
