-- `form::fetch` meets its contract, test by test.
use Rattle.std.proofs.Common.{◌≡◌, ◌+◌, ◌%◌, ℕ, true, false, eqb, length, refl, sym, ap, ◌∙◌}
use borrow.Author.Tests.{lt-ltb, le-ltb, eq-eqb, ne_eqb}
use Rattle.bits.specs.Bytes.{halfword_at}
use Rattle.reading.specs.Readings.{reading_of}
use Rattle.decode.specs.Call.{put_of}
use Rattle.form.specs.Forming.{or_fallback, op_at}
use Rattle.std.specs.Prelude.{Option}
use Rattle.decode.specs.declared.Recorded.{Recorded}
use Rattle.form.proofs.Taken.{kept}
use Rattle.form.proofs.fetch.Goals as goal
use Rattle.decode.specs.declared.Recorded.{Recorded}
use Rattle.std.specs.Prelude.{Option}

pub returns-then-s-at : goal.returns-then-s-at
unfolding op_at
returns-then-s-at c = let a = c.args in rw (lt-ltb (length a.s.now) (a.at + 2) c.if-s-at.true)

pub returns-then-s-at-2 : goal.returns-then-s-at-2
unfolding op_at
returns-then-s-at-2 c =
    let a = c.args in
    let word : eqb (halfword_at a.s.now a.at % 4) 3 ≡ true = eq-eqb (halfword_at a.s.now a.at % 4) 3 (rw c.halfword_at-low.ensures at c.if-low-eq3.true) in
    rw (le-ltb (length a.s.now) (a.at + 2) c.if-s-at.false, word, lt-ltb (length a.s.now) (a.at + 4) c.if-s-at-2.true)

pub returns-then-low-eq3 : goal.returns-then-low-eq3
unfolding op_at
returns-then-low-eq3 c =
    let a = c.args in
    let word : eqb (halfword_at a.s.now a.at % 4) 3 ≡ true = eq-eqb (halfword_at a.s.now a.at % 4) 3 (rw c.halfword_at-low.ensures at c.if-low-eq3.true) in
    rw (le-ltb (length a.s.now) (a.at + 2) c.if-s-at.false, word, le-ltb (length a.s.now) (a.at + 4) c.if-s-at-2.false)
    (c.fetch_word.ensures ∙ ap (λ (w : ℕ). put_of (or_fallback w ((reading_of a.reading).of_word w)) 4 a.place a.at a.lent.now) c.word_at.ensures)

pub returns-in_err-half : goal.returns-in_err-half
unfolding op_at
returns-in_err-half c =
    let a = c.args in
    let half : eqb (halfword_at a.s.now a.at % 4) 3 ≡ false = ne_eqb (halfword_at a.s.now a.at % 4) 3 (rw c.halfword_at-low.ensures at c.if-low-eq3.false) in
    rw (le-ltb (length a.s.now) (a.at + 2) c.if-s-at.false, half, c.from_residual.ensures)
    (ap (λ (p : Option Recorded). (p, c.put.new.lent)) (sym c.in_err-half.was)
    ∙ c.put.ensures ∙ ap (λ (h : ℕ). put_of ((reading_of a.reading).of_half h) 2 a.place a.at a.lent.now) c.halfword_at-low.ensures)

pub returns : goal.returns
unfolding op_at
returns c =
    let a = c.args in
    let half : eqb (halfword_at a.s.now a.at % 4) 3 ≡ false = ne_eqb (halfword_at a.s.now a.at % 4) 3 (rw c.halfword_at-low.ensures at c.if-low-eq3.false) in
    rw (le-ltb (length a.s.now) (a.at + 2) c.if-s-at.false, half)
    (kept 2 a.place a.at a.lent.now (λ d. d) (λ op. refl) ((reading_of a.reading).of_half (halfword_at a.s.now a.at)) c.in_ok-half.was
    (c.put.ensures ∙ ap (λ (h : ℕ). put_of ((reading_of a.reading).of_half h) 2 a.place a.at a.lent.now) c.halfword_at-low.ensures))
