-- `write::notice_pages` meets its contract: one notice, or two that report together.
use Rattle.std.proofs.Common.{ℕ, ◌/◌, List, ap, ap₂, ◌∙◌, arith}
use borrow.Author.Tests.{ne_eqb}
use Rattle.cache.specs.Calls.{noticed_in, report_in, summed}
use Rattle.cache.proofs.View.{report_apart}
use Rattle.write.proofs.Granted.{report-small}
use Rattle.write.proofs.notice_pages.Goals as goal

pub sum-requires : goal.sum-requires
sum-requires c =
    let p = report-small _ _ _ _ c.requires.bounds c.notice_in-first.ensures.0 in
    let q = report-small _ _ _ _ c.requires.bounds c.notice_in.ensures.0 in
    (omega arith, omega arith)

pub returns : goal.returns
returns c =
    let a = c.args in
    let apart = c.if-address-last.false in
    rw (ne_eqb (a.address / 4096) (a.last / 4096) apart) (
      c.sum.ensures
          ∙ ap₂ summed c.notice_in-first.ensures.0
          (c.notice_in.ensures.0 ∙ ap (λ (s : List ℕ). report_in a.g s a.last) c.notice_in-first.ensures.1 ∙ report_apart a.g a.store.now c.requires a.address a.last apart),
      c.notice_in.ensures.1 ∙ ap (λ (s : List ℕ). noticed_in a.g s a.last) c.notice_in-first.ensures.1,
    )
