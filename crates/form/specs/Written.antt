-- What the forming loop leaves: the ops' records behind the head's place, every other byte as it was, and the head's two numbers.
-- Assumes nothing.
use Rattle.std.specs.Prelude.{◌≡◌, List, ℕ, ◌≤◌, length}
use Rattle.bits.specs.Bytes.{patch}
use Rattle.block.specs.Record.{Insn, op_records, byte_len}

pub record Written (ops : List Insn) (before after : List ℕ) (count len : ℕ) : Type 0 where
  pub counted : count ≡ length ops
  pub ended : len ≡ byte_len ops
  pub written : after ≡ patch before 16 (op_records 0 ops)
  pub few : count ≤ 64
  pub short : len ≤ 4096
