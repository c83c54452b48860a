-- `block::well_formed` meets its contract: each test refuses what breaks one fact of the head.
use mathlib.Core.Path.{sym, ◌∙◌}
use native.Mathlib.Omega.{arith}
use Rattle.block.proofs.Head.{Head, refuses, decides}
use Rattle.block.proofs.well_formed.Goals as goal

pub returns-then-record-ne-LEN : goal.returns-then-record-ne-LEN
returns-then-record-ne-LEN c = refuses c.args.«record».now c.args.address (λ h. c.if-record-ne-LEN.true h.long)

pub returns-then-doubleword_at-address : goal.returns-then-doubleword_at-address
returns-then-doubleword_at-address c =
    refuses c.args.«record».now c.args.address (λ h. c.if-doubleword_at-address.true (c.doubleword_at.ensures ∙ h.addressed))

pub returns-then-word_at-ne0 : goal.returns-then-word_at-ne0
returns-then-word_at-ne0 c = refuses c.args.«record».now c.args.address (λ h. omega (arith, c.word_at.ensures, h.zeros))

pub returns-then-count-lt1 : goal.returns-then-count-lt1
returns-then-count-lt1 c = refuses c.args.«record».now c.args.address (λ h. omega (arith, c.halfword_at-count.ensures, h.some))

pub returns-then-count-gt-MAX_OPS : goal.returns-then-count-gt-MAX_OPS
returns-then-count-gt-MAX_OPS c = refuses c.args.«record».now c.args.address (λ h. omega (arith, c.halfword_at-count.ensures, h.few))

pub returns-then-address-byte_len-gt-PAGE : goal.returns-then-address-byte_len-gt-PAGE
returns-then-address-byte_len-gt-PAGE c =
    refuses c.args.«record».now c.args.address (λ h. omega (arith, c.halfword_at-byte_len.ensures, h.in_page))

pub returns : goal.returns
returns c =
    let len = c.halfword_at-byte_len.ensures in
    let many = c.halfword_at-count.ensures in
    let a = c.args in
    let head : Head a.«record».now a.address = record {
      long = c.if-record-ne-LEN.false;
      addressed = sym c.doubleword_at.ensures ∙ c.if-doubleword_at-address.false;
      zeros = omega (arith, c.word_at.ensures, c.if-word_at-ne0.false);
      some = rw many at c.if-count-lt1.false;
      few = rw many at c.if-count-gt-MAX_OPS.false;
      in_page = rw len at c.if-address-byte_len-gt-PAGE.false;
    } in
    rw (decides head, ← many, ← len) c.ops_well_formed.ensures
