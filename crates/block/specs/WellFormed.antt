-- When any bytes are a well-formed block record for an address.
-- Assumes nothing.
use Rattle.std.specs.Prelude.{ℕ, zero, suc, ◌+◌, ◌%◌, Bool, true, ◌&&◌, ◌||◌, not, List, [], ◌∷◌, eqb, leb, length, get_or, take, drop}
use Rattle.bits.specs.Bytes.{halfword_at, word_at, doubleword_at}
use Rattle.op.specs.Record.{jal_number, jalr_number}
use Rattle.op.specs.WellFormed.{op_well_formed}

unfoldable pub all_zero : List ℕ → Bool
all_zero [] = true
all_zero (b ∷ s) = eqb b 0 && all_zero s

-- Jal and Jalr
abbrev pub jumps : ℕ → Bool
jumps op = eqb op jal_number || eqb op jalr_number

-- an op record in its place: at pc_off `at`, with `left` ops behind it
unfoldable pub placed : List ℕ → ℕ → ℕ → Bool
placed o at left = op_well_formed o && eqb (halfword_at o 6) at && (eqb left 0 || not (jumps (get_or o 0 0)))

-- n op records, the first at pc_off `at` and the last up to byte_len, and zeros behind them
unfoldable pub ops_well_formed : List ℕ → ℕ → ℕ → ℕ → Bool
ops_well_formed s zero at len = eqb at len && all_zero s
ops_well_formed s (suc n) at len = placed (take 16 s) at n && ops_well_formed (drop 16 s) n (at + get_or s 5 0) len

-- address, four zeros, 1 to 64 ops, byte_len within the page, the ops
unfoldable pub well_formed : List ℕ → ℕ → Bool
well_formed s address =
    eqb (length s) 1040 && eqb (doubleword_at s 0) address && eqb (word_at s 12) 0 && leb 1 (halfword_at s 8) && leb (halfword_at s 8) 64
    && leb (address % 4096 + halfword_at s 10) 4096
    && ops_well_formed (drop 16 s) (halfword_at s 8) 0 (halfword_at s 10)
