-- Guest memory within its bounds (docs/FORMATS.md), by its length in bytes and its base.
-- Assumes nothing.
use Rattle.std.specs.Prelude.{ℕ, ◌+◌, ◌-◌, ◌*◌, ◌/◌, ◌%◌, ◌^◌, Bool, ◌&&◌, List, eqb, leb, take, drop}

-- 1 to 65,536 whole pages from a page's start, up to 2^56
abbrev pub good_memory : ℕ → ℕ → Bool
good_memory len base = eqb (len % 4096) 0 && eqb (base % 4096) 0 && leb 4096 len && leb len (65536 * 4096) && leb (base + len) (2 ^ 56)

-- the n bytes from an address on lie in memory; and the address alone
abbrev pub spans : ℕ → ℕ → ℕ → ℕ → Bool
spans len base address n = leb base address && leb (address + n) (base + len)

abbrev pub in_memory : ℕ → ℕ → ℕ → Bool
in_memory len base address = spans len base address 1

-- the bytes of an address's page, and those of them from the address on
abbrev pub page_bytes : List ℕ → ℕ → ℕ → List ℕ
page_bytes memory base address = take 4096 (drop ((address - base) / 4096 * 4096) memory)

abbrev pub rest_of_page : List ℕ → ℕ → ℕ → List ℕ
rest_of_page memory base address = drop (address % 4096) (page_bytes memory base address)
