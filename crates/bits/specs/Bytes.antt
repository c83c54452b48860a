-- Numbers in bytes, low byte first, and parts of a list of bytes.
-- Assumes nothing.
use Rattle.std.specs.Prelude.{ℕ, zero, suc, ◌+◌, ◌*◌, ◌/◌, ◌%◌, ◌^◌, List, [], ◌∷◌, ◌++◌, length, take, drop, get_or}

-- the n lowest bytes of x
unfoldable pub le : ℕ → ℕ → List ℕ
le zero x = []
le (suc n) x = x % 256 ∷ le n (x / 256)

-- the n elements of s from `at` on
unfoldable pub part : List ℕ → ℕ → ℕ → List ℕ
part s at n = take n (drop at s)

-- s with p in place of what stood from `at` on
unfoldable pub patch : List ℕ → ℕ → List ℕ → List ℕ
patch s at p = take at s ++ (p ++ drop (at + length p) s)

-- the halfword, word and doubleword that stand at an offset
abbrev pub halfword_at : List ℕ → ℕ → ℕ
halfword_at s at = get_or s at 0 + 2 ^ 8 * get_or s (at + 1) 0

abbrev pub word_at : List ℕ → ℕ → ℕ
word_at s at = halfword_at s at + 2 ^ 16 * halfword_at s (at + 2)

abbrev pub doubleword_at : List ℕ → ℕ → ℕ
doubleword_at s at = word_at s at + 2 ^ 32 * word_at s (at + 4)
