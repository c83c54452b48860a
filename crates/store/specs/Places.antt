-- Page bits and places.
-- Assumes nothing.
use Rattle.std.specs.Prelude.{ℕ, zero, suc, ◌+◌, ◌-◌, ◌*◌, ◌/◌, ◌%◌, ◌^◌, Bool, true, false, cond, List, [], ◌++◌, length, replicate, ◌==◌, bit_and, bit_or, slice_index, slice_set}
use Rattle.bits.specs.Bits.{bit}
use Rattle.bits.specs.Bytes.{le, doubleword_at, part, patch}
use Rattle.bits.specs.Count.{count}
use Rattle.store.specs.Layout.{header_len, front, place_at}
use Rattle.store.specs.declared.Geometry.{Geometry}

-- bit p mod 8 of byte p / 8 of the bitmap
unfoldable pub page_bit : List ℕ → ℕ → Bool
page_bit s p = bit (slice_index s (header_len + p / 8)) (p % 8) == 1

-- a byte with bit k on or off
unfoldable pub put_bit : Bool → ℕ → ℕ → ℕ
put_bit true k x = bit_or x (2 ^ k)
put_bit false k x = bit_and x (255 - 2 ^ k)

unfoldable pub with_bit : List ℕ → ℕ → Bool → List ℕ
with_bit s p on = slice_set s (header_len + p / 8) (put_bit on (p % 8) (slice_index s (header_len + p / 8)))

-- the bytes of slot i's place
abbrev pub place_in : Geometry → List ℕ → ℕ → List ℕ
place_in g s i = part s (place_at g i) g.stride

-- an empty place of z bytes: eight address bytes of 255, and zeros
unfoldable pub empty_place : ℕ → List ℕ
empty_place z = replicate 8 255 ++ replicate (z - 8) 0

-- the bytes of a place that holds a record, and the record that a place shows: in version 1 the same bytes
unfoldable pub place_for : Geometry → List ℕ → List ℕ
place_for g rec = rec

unfoldable pub record_in : Geometry → List ℕ → List ℕ
record_in g place = place

-- a place's address lies in a page, which is counted from address 0
abbrev pub in_page : ℕ → List ℕ → Bool
in_page page p = doubleword_at p 0 / 4096 == page

-- a place after a notice in a page
unfoldable pub emptied : ℕ → List ℕ → List ℕ
emptied page p = cond (in_page page p) (empty_place (length p)) p

-- a place with the address of an empty one
unfoldable pub vacated : List ℕ → List ℕ
vacated p = patch p 0 (le 8 0xFFFF_FFFF_FFFF_FFFF)

-- the first n places of z bytes from `first` on, one after the other, each as f makes it
unfoldable pub each_place : (List ℕ → List ℕ) → ℕ → ℕ → ℕ → List ℕ → List ℕ
each_place f first z zero s = s
each_place f first z (suc n) s = patch (each_place f first z n s) (first + z * n) (f (part (each_place f first z n s) (first + z * n) z))

-- how many of the first n places of z bytes from `first` on have an address in a page
abbrev pub places_in : ℕ → ℕ → ℕ → ℕ → List ℕ → ℕ
places_in page first z n s = count n (λ i. in_page page (part s (first + z * i) z))

-- n times the same
unfoldable pub copies : ℕ → List ℕ → List ℕ
copies zero p = []
copies (suc n) p = p ++ copies n p

-- a zero bitmap and empty places: all of a new or flushed store behind its header
abbrev pub blank : Geometry → List ℕ
blank g = replicate (front g.pages - header_len) 0 ++ copies (2 ^ g.e) (empty_place g.stride)
