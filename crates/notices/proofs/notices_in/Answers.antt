-- `notices::notices_in` meets its contract: the addresses so far are noticed and their reports summed.
use Rattle.std.proofs.Common.{refl, ◌∙◌}
use Rattle.notices.specs.Notices.{noticed_all, report_all}
use Rattle.notices.proofs.Sums.{noticed_more, report_more, sums_fit}
use Rattle.notices.proofs.notices_in.Goals as goal

pub loop-address-init : goal.loop-address-init
unfolding noticed_all report_all
loop-address-init c = (c.nothing-report.ensures, refl)

pub sum-report-requires : goal.sum-report-requires
sum-report-requires c =
    let l = c.loop-address in
    let a = c.args in
    sums_fit a.g a.store.now a.addresses.now l.address-index c.loop-address-test.true l.store l.invariant.1 _ _ l.invariant.0 c.notice_in.ensures.0 c.requires

pub loop-address-preserved : goal.loop-address-preserved
loop-address-preserved c =
    let l = c.loop-address in
    let a = c.args in
    let more = c.loop-address-test.true in (
      c.sum-report.ensures ∙ report_more a.g a.store.now a.addresses.now l.address-index more l.store l.invariant.1 _ _ l.invariant.0 c.notice_in.ensures.0,
      c.notice_in.ensures.1 ∙ noticed_more a.g a.store.now a.addresses.now l.address-index more l.store l.invariant.1,
    )
