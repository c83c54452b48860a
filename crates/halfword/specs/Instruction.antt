-- The fields of a halfword, as decode.rs takes them.
-- Assumes nothing.
use Rattle.std.specs.Prelude.{ℕ, ◌+◌}
use Rattle.bits.specs.Bits.{bits_at}

abbrev pub quadrant : ℕ → ℕ
quadrant w = bits_at w 0 2

abbrev pub funct3 : ℕ → ℕ
funct3 w = bits_at w 13 3

abbrev pub rs2_prime : ℕ → ℕ
rs2_prime w = bits_at w 2 3 + 8

abbrev pub rs1_prime : ℕ → ℕ
rs1_prime w = bits_at w 7 3 + 8

abbrev pub rd : ℕ → ℕ
rd w = bits_at w 7 5

abbrev pub rs2 : ℕ → ℕ
rs2 w = bits_at w 2 5
