-- The fields and immediates of a word, as decode.rs takes them.
-- Assumes nothing.
use Rattle.std.specs.Prelude.{ℕ, ◌+◌, ◌*◌, ◌^◌, ℤ}
use Rattle.bits.specs.Bits.{bits_at, signed}

abbrev pub opcode : ℕ → ℕ
opcode w = bits_at w 0 7

abbrev pub rd : ℕ → ℕ
rd w = bits_at w 7 5

abbrev pub funct3 : ℕ → ℕ
funct3 w = bits_at w 12 3

abbrev pub rs1 : ℕ → ℕ
rs1 w = bits_at w 15 5

abbrev pub rs2 : ℕ → ℕ
rs2 w = bits_at w 20 5

abbrev pub funct7 : ℕ → ℕ
funct7 w = bits_at w 25 7

-- the shift amounts: the six or five low bits of the I-type immediate
abbrev pub shamt6 : ℕ → ℕ
shamt6 w = bits_at w 20 6

abbrev pub shamt5 : ℕ → ℕ
shamt5 w = bits_at w 20 5

abbrev pub imm_i : ℕ → ℤ
imm_i w = signed 12 (bits_at w 20 12)

abbrev pub imm_s : ℕ → ℤ
imm_s w = signed 12 (bits_at w 25 7 * 2 ^ 5 + bits_at w 7 5)

abbrev pub imm_b : ℕ → ℤ
imm_b w = signed 13 (bits_at w 31 1 * 2 ^ 12 + bits_at w 7 1 * 2 ^ 11 + bits_at w 25 6 * 2 ^ 5 + bits_at w 8 4 * 2)

abbrev pub imm_u : ℕ → ℤ
imm_u w = signed 32 (bits_at w 12 20 * 2 ^ 12)

abbrev pub imm_j : ℕ → ℤ
imm_j w = signed 21 (bits_at w 31 1 * 2 ^ 20 + bits_at w 12 8 * 2 ^ 12 + bits_at w 20 1 * 2 ^ 11 + bits_at w 21 10 * 2)
