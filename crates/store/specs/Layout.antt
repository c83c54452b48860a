-- The cache store (docs/FORMATS.md, The store): a header of 32 bytes, the page bitmap, 2 ^ e places.
-- Assumes nothing.
use Rattle.std.specs.Prelude.{◌≡◌, ℕ, ◌+◌, ◌-◌, ◌*◌, ◌/◌, ◌%◌, ◌^◌, ◌≤◌, Bool, cond, ◌&&◌, List, [], ◌∷◌, ◌++◌, length, ◌==◌, nat_le, slice_index, Option, Some, None}
use Rattle.bits.specs.Bytes.{le, doubleword_at, patch}
use Rattle.op.specs.Reading.{reading_known}
use Rattle.block.specs.Memory.{good_memory, in_memory}
use Rattle.store.specs.declared.Geometry.{Geometry}

-- where the reading, e, the base, the page count and the generation stand in the header, and its length
abbrev pub reading_at : ℕ
reading_at = 3

abbrev pub e_at : ℕ
e_at = 6

abbrev pub base_at : ℕ
base_at = 8

abbrev pub pages_at : ℕ
pages_at = 16

abbrev pub generation_at : ℕ
generation_at = 24

abbrev pub header_len : ℕ
header_len = 32

-- "VBC", the reading, version 1, e, a zero
abbrev pub signature : ℕ → ℕ → List ℕ
signature reading e = 86 ∷ 66 ∷ 67 ∷ reading ∷ 1 ∷ 0 ∷ e ∷ 0 ∷ []

abbrev pub header : Geometry → ℕ → List ℕ
header g generation = signature g.reading g.e ++ (le 8 g.base ++ (le 8 g.pages ++ le 8 generation))

-- e at most 14, and a memory within the bounds
abbrev pub sized : ℕ → ℕ → ℕ → Bool
sized e base pages = nat_le e 14 && good_memory (4096 * pages) base

abbrev pub in_bounds : ℕ → ℕ → ℕ → ℕ → Bool
in_bounds reading e base pages = reading_known reading && sized e base pages

-- where the places begin: behind the header, and eight bytes for each begun 64 pages
abbrev pub front : ℕ → ℕ
front pages = header_len + (pages + 63) / 64 * 8

abbrev pub store_len : Geometry → ℕ
store_len g = front g.pages + g.stride * 2 ^ g.e

-- the geometry that these numbers say; the places of version 1 have 1,040 bytes
abbrev pub geometry : ℕ → ℕ → ℕ → ℕ → Geometry
geometry reading e base pages = record { reading = reading; e = e; base = base; pages = pages; stride = 1040 }

abbrev pub stated : List ℕ → Geometry
stated s = geometry (slice_index s reading_at) (slice_index s e_at) (doubleword_at s base_at) (doubleword_at s pages_at)

unfoldable pub is_store : List ℕ → Bool
is_store s =
    nat_le header_len (length s) && (doubleword_at s 0 == doubleword_at (signature (slice_index s reading_at) (slice_index s e_at)) 0
    && (in_bounds (slice_index s reading_at) (slice_index s e_at) (doubleword_at s base_at) (doubleword_at s pages_at) && length s == store_len (stated s)))

-- the header check
unfoldable pub opened : List ℕ → Option Geometry
opened s = cond (is_store s) (Some (stated s)) None

-- what the check leaves known; the calls' parts ask for it
pub record Bounded (g : Geometry) : Type 0 where
  pub known : g.reading ≤ 1
  pub few : g.e ≤ 14
  pub some : 1 ≤ g.pages
  pub most : g.pages ≤ 65536
  pub aligned : g.base % 4096 ≡ 0
  pub below : g.base + 4096 * g.pages ≤ 2 ^ 56
  pub room : 16 ≤ g.stride
  pub small : g.stride ≤ 4096

pub record Fitting (g : Geometry) (s : List ℕ) : Type 0 where
  pub bounds : Bounded g
  pub exact : length s ≡ store_len g

-- an address lies in the store's memory; its page, counted from the base; its slot
unfoldable pub holds : Geometry → ℕ → Bool
holds g a = in_memory (4096 * g.pages) g.base a

abbrev pub memory_page : Geometry → ℕ → ℕ
memory_page g a = (a - g.base) / 4096

abbrev pub slot_of : Geometry → ℕ → ℕ
slot_of g a = a / 2 % 2 ^ g.e

-- where the place of slot i begins
abbrev pub place_at : Geometry → ℕ → ℕ
place_at g i = front g.pages + g.stride * i

abbrev pub generation_of : List ℕ → ℕ
generation_of s = doubleword_at s generation_at

-- the generation one up, wrapping
unfoldable pub bumped : List ℕ → List ℕ
bumped s = patch s generation_at (le 8 ((generation_of s + 1) % 2 ^ 64))
