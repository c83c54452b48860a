-- `alu::alu` meets its contract: the library's rotations and its swap of bytes are the Rust's.
use Rattle.std.proofs.Common.{ℕ, ◌%◌, ◌^◌, ap, Ok, arith}
use Rattle.bits.proofs.Bit.{masked_lt}
use Rattle.alu.specs.Rust.{widen}
use Rattle.alu.proofs.Turned.{left_turned, right_turned, swapped_is}
use Rattle.alu.proofs.alu.Goals as goal

pub returns-in-Rol : goal.returns-in-Rol
returns-in-Rol c = rw (c.in-Rol.is, c.rotate_left.ensures) (ap Ok (left_turned 64 c.args.lhs _ (search masked_lt) c.ranges.lhs.fits))

pub returns-in-Ror : goal.returns-in-Ror
returns-in-Ror c = rw (c.in-Ror.is, c.rotate_right.ensures) (ap Ok (right_turned 64 c.args.lhs _ (search masked_lt) c.ranges.lhs.fits))

pub returns-in-Rolw : goal.returns-in-Rolw
returns-in-Rolw c =
    rw (c.in-Rolw.is, c.widen_word-in-Rolw.ensures, c.rotate_left-in-Rolw.ensures, c.as_u32-in-Rolw.ensures)
    (ap (λ (n : ℕ). Ok (widen 32 n)) (left_turned 32 (c.args.lhs % 2 ^ 32) _ (search masked_lt) (omega arith)))

pub returns-in-Rorw : goal.returns-in-Rorw
returns-in-Rorw c =
    rw (c.in-Rorw.is, c.widen_word-in-Rorw.ensures, c.rotate_right-in-Rorw.ensures, c.as_u32-in-Rorw.ensures)
    (ap (λ (n : ℕ). Ok (widen 32 n)) (right_turned 32 (c.args.lhs % 2 ^ 32) _ (search masked_lt) (omega arith)))

pub returns-in-Rev8 : goal.returns-in-Rev8
returns-in-Rev8 c = rw (c.in-Rev8.is, c.swap_bytes.ensures) (ap Ok (swapped_is c.args.lhs))
