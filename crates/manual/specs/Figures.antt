-- The manual's figures of instruction formats, read from the left.
-- Assumes nothing.
use Rattle.std.specs.Prelude.{ℕ, suc, ◌+◌, ◌-◌, ◌*◌, ◌/◌, ◌%◌, ◌^◌, List, [], ◌∷◌}

-- inst[high:low]
abbrev pub slice : ℕ → ℕ → ℕ → ℕ
slice w high low = w / 2 ^ low % 2 ^ (suc high - low)

-- a figure's columns: `imm 12 12` and `imm 10 5` are imm[12|10:5], and `skip n` is a column of n bits that is no part of the immediate
pub data Column : Type 0 where
  imm : ℕ → ℕ → Column
  skip : ℕ → Column

-- the immediate of a figure, of which `top` bits are still to be read
abbrev pub figure : ℕ → ℕ → List Column → ℕ
figure w top [] = 0
figure w top (skip n ∷ columns) = figure w (top - n) columns
figure w top (imm high low ∷ columns) =
    w / 2 ^ (top - (suc high - low)) % 2 ^ (suc high - low) * 2 ^ low + figure w (top - (suc high - low)) columns
