-- Laws of places: lengths, and what a walk over all of them leaves. Nothing here depends on how many bytes a place has.
-- Assumes nothing.
use Rattle.std.proofs.Common.{◌≡◌, ℕ, zero, suc, ◌+◌, ◌-◌, ◌*◌, ◌/◌, ◌<◌, ◌≤◌, Bool, true, false, cond, eqb, List, ◌++◌, length, drop, replicate, sym, refl, ap, ◌∙◌, ap₂, append_assoc, mul-zero, mul-suc, add-one, arith, length-append, ne_eqb, eqb-true}
use lib.ListN.{length-replicate, replicate-append-replicate}
use Rattle.bits.specs.Bytes.{le, part, patch, doubleword_at}
use Rattle.bits.specs.Count.{count}
use Rattle.bits.proofs.Bytes.{length-le, length-patch, length_part, part_behind, le-zero, le_cons, patch-append}
use Rattle.store.specs.Layout.{signature, header, front}
use Rattle.store.specs.Places.{empty_place, in_page, emptied, vacated, each_place, places_in, copies}
use Rattle.store.specs.declared.Geometry.{Geometry}
use Rattle.store.proofs.Known.{after}

-- zeros with eight bytes of 255 over them
pub empty_made : (z : ℕ) → 8 ≤ z → patch (replicate z 0) 0 (le 8 0xFFFF_FFFF_FFFF_FFFF) ≡ empty_place z
unfolding patch empty_place le
empty_made z h = ap (λ (l : List ℕ). replicate 8 255 ++ drop 8 l) (ap (λ (n : ℕ). replicate {A = ℕ} n 0) e ∙ sym (replicate-append-replicate 8 (z - 8) 0))
  where
    e : z ≡ 8 + (z - 8)
    e = omega arith

pub length_empty : (z : ℕ) → 8 ≤ z → length (empty_place z) ≡ z
unfolding empty_place
length_empty z h = simp (length-append, length-replicate) (omega arith)

-- no page of memory has the address of an empty place
pub empty_address : (z : ℕ) → doubleword_at (empty_place z) 0 ≡ 0xFFFF_FFFF_FFFF_FFFF
unfolding empty_place
empty_address z = refl

-- no page of memory holds an empty place
empty_out : (v z : ℕ) → v < 0xF_FFFF_FFFF_FFFF → in_page v (empty_place z) ≡ false
empty_out v z low = ne_eqb (doubleword_at (empty_place z) 0 / 4096) v (λ q. omega (arith, empty_address z))

-- a place lies in one page
one_page : (w v : ℕ) (p : List ℕ) → (w ≡ v → ⊥) → in_page w p ≡ true → in_page v p ≡ false
one_page w v p n e = ne_eqb (doubleword_at p 0 / 4096) v (λ q. n (sym (eqb-true _ _ e) ∙ q))

-- emptying the places of one page leaves another page's as they were
pub emptied_apart : (w v : ℕ) (p : List ℕ) → (w ≡ v → ⊥) → v < 0xF_FFFF_FFFF_FFFF → in_page v (emptied w p) ≡ in_page v p
unfolding emptied
emptied_apart w v p n low = go (in_page w p) refl
  where
    go : (b : Bool) → in_page w p ≡ b → in_page v (cond b (empty_place (length p)) p) ≡ in_page v p
    go true e = empty_out v (length p) low ∙ sym (one_page w v p n e)
    go false e = refl

-- and two pages' are emptied in either order
pub emptied_comm : (w v : ℕ) (p : List ℕ) → (w ≡ v → ⊥) → w < 0xF_FFFF_FFFF_FFFF → v < 0xF_FFFF_FFFF_FFFF → emptied v (emptied w p) ≡ emptied w (emptied v p)
unfolding emptied
emptied_comm w v p n lw lv = go (in_page w p) refl (in_page v p) refl
  where
    go : (b : Bool) → in_page w p ≡ b → (c : Bool) → in_page v p ≡ c → emptied v (emptied w p) ≡ emptied w (emptied v p)
    go true e c d = rw (e, one_page w v p n e, e, empty_out v (length p) lv)
    go false e true d = rw (e, d, empty_out w (length p) lw)
    go false e false d = rw (e, d, e)

pub length-emptied : (w : ℕ) (p : List ℕ) → 8 ≤ length p → length (emptied w p) ≡ length p
unfolding emptied
length-emptied w p h = go (eqb (doubleword_at p 0 / 4096) w)
  where
    go : (b : Bool) → length (cond b (empty_place (length p)) p) ≡ length p
    go true = length_empty (length p) h
    go false = refl

pub length-vacated : (p : List ℕ) → 8 ≤ length p → length (vacated p) ≡ length p
unfolding vacated
length-vacated p h = length-patch p 0 (le 8 0xFFFF_FFFF_FFFF_FFFF) (rw length-le h)

-- a walk with a function that keeps a place's length
module _ (f : List ℕ → List ℕ) (first z : ℕ) (keeps : (p : List ℕ) → length p ≡ z → length (f p) ≡ z) where
  pub length_each : (n : ℕ) (s : List ℕ) → first + z * n ≤ length s → length (each_place f first z n s) ≡ length s
  unfolding each_place
  length_each zero s h = refl
  length_each (suc n) s h =
      let h1 : first + z * n + z ≤ length s = omega (arith, rw mul-suc at h) in
      let l = length_each n s (omega arith) in
      let p = part (each_place f first z n s) (first + z * n) z in
      let k : length (f p) ≡ z = keeps p (length_part (each_place f first z n s) (first + z * n) z (omega arith)) in
      length-patch (each_place f first z n s) (first + z * n) (f p) (omega arith) ∙ l

  -- the places that the walk has not come to are as they were
  pub part_each : (n k : ℕ) (s : List ℕ) → n ≤ k → first + z * k + z ≤ length s → part (each_place f first z n s) (first + z * k) z ≡ part s (first + z * k) z
  unfolding each_place
  part_each zero k s h r = refl
  part_each (suc n) k s h r =
      let next = after z n k (omega arith) in
      let l = length_each n s (omega arith) in
      let p = part (each_place f first z n s) (first + z * n) z in
      let w : length (f p) ≡ z = keeps p (length_part (each_place f first z n s) (first + z * n) z (omega arith)) in
      part_behind (each_place f first z n s) (first + z * n) (f p) (first + z * k) z (omega arith) (omega arith) ∙ part_each n k s (omega arith) r

-- a loop over places, after i turns: the first i are made, and `at` is where the next begins
abbrev pub Walking : (List ℕ → List ℕ) → ℕ → ℕ → List ℕ → List ℕ → ℕ → ℕ → Type 0
Walking make first z s store i at = (at ≡ first + z * i) × (store ≡ each_place make first z i s)

pub walking_begins : (make : List ℕ → List ℕ) (first z : ℕ) (s : List ℕ) → Walking make first z s s 0 first
unfolding each_place
walking_begins make first z s = (omega (arith, mul-zero z), refl)

-- the next place lies within the list
pub next_fits : (first z n i at len : ℕ) → at ≡ first + z * i → i < n → first + z * n ≤ len → at + z ≤ len
next_fits first z n i at len w h f = omega (arith, after z i n h)

-- a loop that also counts the places in a page: after one more turn
module _ (page first z n : ℕ) (s store : List ℕ) (i at dropped : ℕ) (w : Walking (emptied page) first z s store i at) (lt : i < n) where
  pub counting : 8 ≤ z → first + z * n ≤ length s → dropped ≡ places_in page first z i s → dropped + cond (in_page page (part store at z)) 1 0 ≡ places_in page first z (i + 1) s
  unfolding count
  counting room fits e = rw (add-one i) (ap₂ ◌+◌ e (ap (λ (p : List ℕ). cond (in_page page p) 1 0) here))
    where
      next : first + z * i + z ≤ length s
      next = omega (arith, after z i n lt)

      here : part store at z ≡ part s (first + z * i) z
      here = ap₂ (λ (t : List ℕ) (k : ℕ). part t k z) w.1 w.0 ∙ part_each (emptied page) first z (λ p l. length-emptied page p (rw l room) ∙ l) i i s (omega arith) next

pub length-copies : (n : ℕ) (p : List ℕ) (z : ℕ) → length p ≡ z → length (copies n p) ≡ z * n
unfolding copies
length-copies zero p z l = sym (mul-zero z)
length-copies (suc n) p z l = simp length-append (omega (arith, l, length-copies n p z l, mul-suc z n))

-- a header written as four numbers
pub header_made : (g : Geometry) (s : List ℕ) → g.reading ≤ 1 → g.e ≤ 14 → 32 ≤ length s → patch (patch (patch (patch s 0 (le 8 (0x1_0043_4256 + g.reading * 0x100_0000 + g.e * 0x1_0000_0000_0000))) 8 (le 8 g.base)) 16 (le 8 g.pages)) 24 (le 8 1) ≡ patch s 0 (header g 1)
header_made g s k h l =
    ap (λ (t : List ℕ). patch (patch (patch t 8 b) 16 p) 24 n) (ap (patch s 0) signed)
    ∙ ap (λ (t : List ℕ). patch (patch t 16 p) 24 n) (sym (patch-append s 0 a b (omega arith)))
    ∙ ap (λ (t : List ℕ). patch t 24 n) (then (a ++ b) 16 p (simp (length-append, length-le)) (omega arith))
    ∙ then ((a ++ b) ++ p) 24 n (simp (length-append, length-le)) (omega arith)
    ∙ ap (patch s 0) (rw (append_assoc, append_assoc))
  where
    a : List ℕ
    a = signature g.reading g.e

    b : List ℕ
    b = le 8 g.base

    p : List ℕ
    p = le 8 g.pages

    n : List ℕ
    n = le 8 1

    then : (front : List ℕ) (at : ℕ) (next : List ℕ) → length front ≡ at → at ≤ length s → patch (patch s 0 front) at next ≡ patch s 0 (front ++ next)
    then front at next e f =
        let z : 0 + length front ≡ at = omega arith in
        sym (patch-append s 0 front next (omega arith) ∙ ap (λ (k : ℕ). patch (patch s 0 front) k next) z)

    signed : le 8 (0x1_0043_4256 + g.reading * 0x100_0000 + g.e * 0x1_0000_0000_0000) ≡ a
    signed =
        let top = g.e + 256 * 0 in
        let zero_top = 0 + 256 * top in
        let version = 1 + 256 * zero_top in
        let reading = g.reading + 256 * version in
        let c = 67 + 256 * reading in
        let b_c = 66 + 256 * c in
        let sums : 0x1_0043_4256 + g.reading * 0x100_0000 + g.e * 0x1_0000_0000_0000 ≡ 86 + 256 * b_c = omega arith in
        ap (le 8) sums
        ∙ le_cons 7 86 b_c (omega arith)
        (le_cons 6 66 c (omega arith)
        (le_cons 5 67 reading (omega arith)
        (le_cons 4 g.reading version (omega arith)
        (le_cons 3 1 zero_top (omega arith)
        (le_cons 2 0 top (omega arith)
        (le_cons 1 g.e 0 (omega arith) (le_cons 0 0 0 (omega arith) (le-zero 0))))))))
