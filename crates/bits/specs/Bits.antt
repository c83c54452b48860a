-- A number by its bits.
-- Assumes nothing.
use Rattle.std.specs.Prelude.{ℕ, zero, suc, ◌+◌, ◌-◌, ◌*◌, ◌/◌, ◌%◌, ◌^◌, cond, ltb, ℤ, pos, negsuc}

-- the `n` bits of w from bit `lo` up
abbrev pub bits_at : ℕ → ℕ → ℕ → ℕ
bits_at w lo n = w / 2 ^ lo % 2 ^ n

abbrev pub bit : ℕ → ℕ → ℕ
bit x i = x / 2 ^ i % 2

-- the number of n bits whose bit i is f i
unfoldable pub from_bits : ℕ → (ℕ → ℕ) → ℕ
from_bits zero f = 0
from_bits (suc n) f = f n * 2 ^ n + from_bits n f

-- n bits in two's complement: v, or v - 2 ^ n where the top bit is set; `negsuc k` is -(k + 1)
abbrev pub signed : ℕ → ℕ → ℤ
signed n v = cond (ltb v (2 ^ n / 2)) (pos v) (negsuc (2 ^ n - suc v))
