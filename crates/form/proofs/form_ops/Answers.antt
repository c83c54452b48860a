-- `form::form_ops` meets its contract: what is left to write, with what is written, is the whole.
use Rattle.std.proofs.Common.{◌≡◌, ◌+◌, ◌-◌, ◌*◌, ◌<◌, ℕ, true, false, cond, List, [], sym, ap, subst, ◌∙◌, arith}
use Rattle.block.specs.WellFormed.{jumps}
use Rattle.op.specs.Reading.{Reading}
use Rattle.op.specs.Record.{op_fields}
use Rattle.reading.specs.Readings.{reading_of}
use Rattle.form.specs.Forming.{ilen_at, op_at, ops_from}
use Rattle.form.specs.Written.{Written}
use Rattle.form.proofs.Kept.{Within, within}
use Rattle.form.proofs.Taken.{Taking, took, stopped}
use Rattle.form.proofs.Loop.{ops_full, ops_stop, ops_kept, Left, step, finish}
use Rattle.form.proofs.form_ops.Goals as goal
use Rattle.op.specs.declared.Op.{Op}
use Rattle.std.specs.Prelude.{Option, Some}

-- where a step took an op of ilen bytes
module _ (r : Reading) (s old lent now : List ℕ) (count at n ilen : ℕ) (t : Taking (op_at r s at) (ilen_at s at) (16 + count * 16) at lent now n ilen) where
  -- it lies within s
  inside : Within s at (Some t.op) ilen
  inside = subst (Within s at (Some t.op)) t.long (subst (λ (d : Option Op). Within s at d (ilen_at s at)) t.is (within r s at))

  -- the ops behind it are left, or none where it jumps
  left : count < 64 → Left (ops_from r s 64 0) (ops_from r s (64 - count) at) old lent count at
      → Left (ops_from r s 64 0) (cond (jumps (op_fields t.op).op) [] (ops_from r s (64 - (count + 1)) (at + ilen))) old now (count + 1) (at + ilen)
  left h m = step t.op now t.wrote h (rw (ops_kept r s count at h t.op ilen t.is t.long) at m)

pub returns-in_default : goal.returns-in_default
returns-in_default c =
    let l = c.loop-count in
    let a = c.args in
    let r = reading_of a.reading in
    let none = stopped (ilen_at a.s.now l.at) (16 + l.count * 16) l.at l.lent (op_at r a.s.now l.at) c.in_default.is c.fetch.ensures in
    let e = ops_stop r a.s.now l.count l.at c.loop-count-test.true none.0 in
    subst (λ (u : List ℕ). Written (ops_from r a.s.now 64 0) a.lent.now u l.count l.at) (sym none.1) (finish l.invariant.1 (omega arith) (rw e at l.invariant.0))

pub returns-then-jumps : goal.returns-then-jumps
returns-then-jumps c =
    let l = c.loop-count in
    let a = c.args in
    let r = reading_of a.reading in
    let t = took (ilen_at a.s.now l.at) (16 + l.count * 16) l.at l.lent (op_at r a.s.now l.at) c.in-Some.is c.fetch.ensures in
    let e : jumps (op_fields t.op).op ≡ true = ap jumps (sym t.number) ∙ sym c.jumps.ensures ∙ c.if-jumps.true in
    let i = inside r a.s.now a.lent.now l.lent c.fetch.new.lent l.count l.at c.in-Some.field-0.op c.in-Some.field-0.ilen t in
    finish (omega arith) (omega (arith, i)) (rw e at (left r a.s.now a.lent.now l.lent c.fetch.new.lent l.count l.at c.in-Some.field-0.op c.in-Some.field-0.ilen t c.loop-count-test.true l.invariant.0))

pub loop-count-preserved : goal.loop-count-preserved
loop-count-preserved c =
    let l = c.loop-count in
    let a = c.args in
    let r = reading_of a.reading in
    let t = took (ilen_at a.s.now l.at) (16 + l.count * 16) l.at l.lent (op_at r a.s.now l.at) c.in-Some.is c.fetch.ensures in
    let e : jumps (op_fields t.op).op ≡ false = ap jumps (sym t.number) ∙ sym c.jumps.ensures ∙ c.if-jumps.false in
    let i = inside r a.s.now a.lent.now l.lent c.fetch.new.lent l.count l.at c.in-Some.field-0.op c.in-Some.field-0.ilen t in
    (rw e at (left r a.s.now a.lent.now l.lent c.fetch.new.lent l.count l.at c.in-Some.field-0.op c.in-Some.field-0.ilen t c.loop-count-test.true l.invariant.0), omega arith, omega (arith, i))

pub returns : goal.returns
returns c =
    let l = c.loop-count in
    let a = c.args in
    let all : l.count ≡ 64 = omega arith in
    finish (omega arith) (omega arith)
    (subst (λ (n : ℕ). Left (ops_from (reading_of a.reading) a.s.now 64 0) [] a.lent.now l.lent n l.at) all
    (rw (ops_full (reading_of a.reading) a.s.now l.count l.at c.loop-count-test.false) at l.invariant.0))
