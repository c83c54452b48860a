-- `block::ops_well_formed` meets its contract: the ops that are left decide as all of them do.
use Rattle.std.proofs.Common.{refl, sym, ◌∙◌, arith}
use Rattle.std.proofs.lemmas.Option.{MatchOption-at_some}
use borrow.Author.Tests.{eq-eqb, ne_eqb}
use Rattle.block.proofs.Walk.{walk_step, walk_end, placed_short}
use Rattle.block.proofs.ops_well_formed.Goals as goal

pub returns-then-not-op_placed : goal.returns-then-not-op_placed
returns-then-not-op_placed c =
    let l = c.loop-left in
    let cut = MatchOption-at_some _ _ _ c.unwrap.ensures c.split_first_chunk.ensures.cases in
    let wrong = sym c.op_placed.ensures ∙ c.if-not-op_placed.true in
    sym (walk_step l.rest.now l.left l.at c.args.byte_len c.loop-left-test.true cut.0 cut.1 refl ∙ rw wrong) ∙ l.invariant.0

pub loop-left-preserved : goal.loop-left-preserved
loop-left-preserved c =
    let l = c.loop-left in
    let cut = MatchOption-at_some _ _ _ c.unwrap.ensures c.split_first_chunk.ensures.cases in
    let fine = sym c.op_placed.ensures ∙ c.if-not-op_placed.false in (
      sym (walk_step l.rest.now l.left l.at c.args.byte_len c.loop-left-test.true cut.0 cut.1 c.from-at.ensures ∙ rw fine) ∙ l.invariant.0,
      omega (arith, cut.2, l.invariant.1, c.loop-left-test.true),
      omega (arith, l.invariant.2, placed_short _ _ _ fine, c.from-at.ensures, c.loop-left-test.true),
    )

pub returns-then-at-byte_len : goal.returns-then-at-byte_len
returns-then-at-byte_len c =
    let l = c.loop-left in
    c.all_zero.ensures ∙ sym (walk_end l.rest.now l.left l.at c.args.byte_len c.loop-left-test.false ∙ rw (eq-eqb _ _ c.if-at-byte_len.true)) ∙ l.invariant.0

pub returns-else-at-byte_len : goal.returns-else-at-byte_len
returns-else-at-byte_len c =
    let l = c.loop-left in
    rw (ne_eqb _ _ c.if-at-byte_len.false) (sym (walk_end l.rest.now l.left l.at c.args.byte_len c.loop-left-test.false ∙ rw (ne_eqb _ _ c.if-at-byte_len.false)) ∙ l.invariant.0)
