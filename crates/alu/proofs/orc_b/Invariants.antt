use Rattle.std.proofs.Common.{◌≡◌, ◌≤◌}
use Rattle.alu.specs.Rust.{orced}
use Rattle.alu.proofs.orc_b.Given as goal

-- after i turns the i low bytes are spread
abbrev pub invariant-loop-i : goal.invariant-loop-i
invariant-loop-i l = (l.i ≤ 8) × (l.result ≡ orced l.x l.i)
