-- Signed results from unsigned numbers: what a cast to `i64` reads, and a difference below zero.
-- Assumes nothing.
use mathlib.Core.Path.{◌≡◌}
use Prim.Native.Nat.{ℕ, zero, suc, ◌<◌, ◌≤◌, ◌-◌, ◌*◌, ◌^◌, ◌%◌}
use native.Mathlib.Nat.{not-suc-le-zero, one-mul, mod-eq_of_lt}
use native.Mathlib.Omega.{arith}
use lib.IntN.{pos, negsuc, ◌-ℤ◌}
use lib.Pow.{pow-lt, pow_mono}
use mir.Syntax.{w64}
use mir.Val.{to_z, SFits}
use mir.Facts.{to_z_pos}
use borrow.Author.Tests.{lt-ltb}

-- two to a power of at most 32, as a shift leaves it at 64 bits
pub shifted : (n : ℕ) → n ≤ 32 → 1 * 2 ^ n % 2 ^ 64 ≡ 2 ^ n
shifted n h = rw one-mul (mod-eq_of_lt (pow-lt {i = n} {j = 64} (omega arith)))

pub small : (n : ℕ) → n ≤ 32 → 2 ^ n ≤ 2 ^ 32
small n h = pow_mono {i = n} {j = 32} h

pub below-zero : (a b : ℕ) → a < b → pos a -ℤ pos b ≡ negsuc (b - suc a)
below-zero a zero h = absurd (not-suc-le-zero h)
below-zero a (suc k) h = rw (lt-ltb a (suc k) h)

-- the difference of two small numbers that is below zero, and that it fits
pub diff : (a b : ℕ) → a < b → b ≤ 2 ^ 32 → to_z w64 a -ℤ to_z w64 b ≡ negsuc (b - suc a)
diff a b h k = rw (to_z_pos w64 {n = a} (omega arith), to_z_pos w64 {n = b} (omega arith)) (below-zero a b h)

pub diff_fits : (a b : ℕ) → a < b → b ≤ 2 ^ 32 → SFits w64 (to_z w64 a -ℤ to_z w64 b)
diff_fits a b h k = rw (diff a b h k) (record { sfits = omega arith })
