use Rattle.std.proofs.Common.{◌≡◌, take}
use Rattle.notices.specs.Notices.{noticed_all, report_all}
use Rattle.notices.proofs.notices_in.Given as goal

-- the addresses so far are noticed and their reports summed
abbrev pub invariant-loop-address : goal.invariant-loop-address
invariant-loop-address l =
    (l.report ≡ report_all l.g l.fn.store (take l.address-index l.addresses)) × (l.store ≡ noticed_all l.g l.fn.store (take l.address-index l.addresses))
