-- `write::guest_write` meets its contract: decided first; then the notices, then the bytes.
use Rattle.std.proofs.Common.{sym, arith}
use Rattle.cache.proofs.Checks.{opened-fits}
use Rattle.write.proofs.Granted.{write_granted}
use Rattle.write.proofs.guest_write.Goals as goal

pub overflow_add-address : goal.overflow_add-address
overflow_add-address c =
    let w = write_granted _ _ _ _ _ (sym c.in_ok-g.ensures) in
    omega (arith, w, (opened-fits _ _ w.sound).bounds)

pub notice_pages-report-requires : goal.notice_pages-report-requires
notice_pages-report-requires c = opened-fits _ _ (write_granted _ _ _ _ _ (sym c.in_ok-g.ensures)).sound
