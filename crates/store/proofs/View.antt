-- A store as its geometry, its generation, its page bits and its places: what each change leaves of the four.
-- Nothing here depends on how many bytes a place has.
-- Assumes nothing.
use Rattle.std.proofs.Common.{◌≡◌, ℕ, zero, suc, ◌+◌, ◌-◌, ◌*◌, ◌/◌, ◌%◌, ◌^◌, ◌<◌, ◌≤◌, Bool, true, false, cond, ◌&&◌, eqb, ltb, leb, List, [], ◌∷◌, ◌++◌, length, get_or, take, drop, set, replicate, sym, refl, ap, ◌∙◌, ap₂, append_assoc, append-nil, mod-lt, mod-eq_of_lt, mul_comm, div-lt_iff_lt-mul, add_comm, mul-zero, div-add-mod', mul-suc, add-one, arith, lit<, length-append, drop_of_length-le, length-take, length-take-le, get_or-take, drop-drop, take_at, get_or-append-add, ext_get_or, drop_at, pow_pos, le-ltb, lt-ltb, ne_eqb, eqb-true}
use native.Mathlib.Decide.{dec_lt}
use lib.ListN.{length-replicate, get_or-replicate, replicate-append-replicate, get_or-append}
use lib.Seq.{set_split, take-set-lt}
use borrow.Author.Tests.{eqb-false}
use Rattle.bits.specs.Bits.{bit}
use Rattle.bits.proofs.Bit.{bit_above}
use Rattle.bits.specs.Bytes.{le, part, patch, doubleword_at}
use Rattle.bits.proofs.Bytes.{length-le, length-patch, length_part, get_or-part, part_same, part-before, part_behind, get_or-before, get_or-behind, doubleword_le, doubleword_same, doubleword_before}
use Rattle.bits.proofs.Tests.{and_both}
use Rattle.op.specs.Reading.{reading_known}
use Rattle.store.specs.Layout.{signature, header, sized, in_bounds, front, store_len, geometry, stated, is_store, opened, Bounded, Fitting, place_at, generation_of, bumped}
use Rattle.store.specs.Places.{page_bit, place_in, put_bit, with_bit, empty_place, vacated, each_place, copies, blank}
use Rattle.store.specs.declared.Geometry.{Geometry}
use Rattle.store.proofs.Bits.{bit_with}
use Rattle.store.proofs.Known.{after, bounds_are, Header, opened-sound, place_fits, front_fits, bit-fits}
use Rattle.store.proofs.Places.{empty_made, length_empty, length-vacated, length-copies}
use Rattle.std.specs.Prelude.{Option, Some, None}

-- eight bytes that are the same say the same number
same_word : (k : ℕ) (z s : List ℕ) → ((j : ℕ) → k ≤ j → j < k + 8 → get_or z j 0 ≡ get_or s j 0) → doubleword_at z k ≡ doubleword_at s k
same_word k z s at =
    rw (at k (omega arith) (omega arith), at (k + 1) (omega arith) (omega arith), at (k + 2) (omega arith) (omega arith), at (k + 2 + 1) (omega arith) (omega arith), at (k + 4) (omega arith) (omega arith), at (k + 4 + 1) (omega arith) (omega arith), at (k + 4 + 2) (omega arith) (omega arith), at (k + 4 + 2 + 1) (omega arith) (omega arith))

zero_bit : (k : ℕ) → eqb (bit 0 k) 1 ≡ false
zero_bit k = ne_eqb (bit 0 k) 1 (λ h. omega (arith, bit_above 0 0 k (lit< tt) (omega arith)))

-- the header check reads the length and the first 24 bytes
opened_by : ℕ → ℕ → ℕ → ℕ → ℕ → ℕ → Option Geometry
opened_by n r e t b p =
    cond (leb 32 n && (eqb t (doubleword_at (signature r e) 0) && (in_bounds r e b p && eqb n (store_len (geometry r e b p))))) (Some (geometry r e b p)) None

opened_by_lem : (s : List ℕ) → opened s ≡ opened_by (length s) (get_or s 3 0) (get_or s 6 0) (doubleword_at s 0) (doubleword_at s 8) (doubleword_at s 16)
unfolding opened is_store opened_by
opened_by_lem s = refl

pub opened_same : (s z : List ℕ) → length z ≡ length s → ((k : ℕ) → k < 24 → get_or z k 0 ≡ get_or s k 0) → opened z ≡ opened s
opened_same s z l same =
    opened_by_lem z
    ∙ rw (l, word 0 (omega arith), word 8 (omega arith), word 16 (omega arith), same 3 (omega arith), same 6 (omega arith)) (sym (opened_by_lem s))
  where
    word : (k : ℕ) → k + 8 ≤ 24 → doubleword_at z k ≡ doubleword_at s k
    word k h = same_word k z s (λ j a b. same j (omega arith))

-- what a part replaced leaves, by where it lies
module _ (s : List ℕ) (at : ℕ) (p : List ℕ) (f : at + length p ≤ length s) where
  pub opened-patch : 24 ≤ at → opened (patch s at p) ≡ opened s
  opened-patch h = opened_same s (patch s at p) (length-patch s at p f) (λ k b. get_or-before s at p f k (omega arith))

  pub generation-patch : 32 ≤ at → generation_of (patch s at p) ≡ generation_of s
  generation-patch h = doubleword_before s at p 24 f (omega arith)

  pub bit-patch_low : (q : ℕ) → at + length p ≤ 32 → page_bit (patch s at p) q ≡ page_bit s q
  unfolding page_bit
  bit-patch_low q h = rw (get_or-behind s at p f (32 + q / 8) (omega arith))

  pub bit-patch_high : (q : ℕ) → 32 + q / 8 < at → page_bit (patch s at p) q ≡ page_bit s q
  unfolding page_bit
  bit-patch_high q h = rw (get_or-before s at p f (32 + q / 8) h)

  pub place_patch_low : (g : Geometry) (i : ℕ) → at + length p ≤ front g.pages → place_in g (patch s at p) i ≡ place_in g s i
  place_patch_low g i h = part_behind s at p (place_at g i) g.stride f (omega arith)

-- a page's bit lies in the front
pub front_with : (s : List ℕ) (p n : ℕ) (v : Bool) → 32 + p / 8 < n → part (with_bit s p v) 0 n ≡ with_bit (part s 0 n) p v
unfolding with_bit part
front_with s p n v h = take-set-lt n s (32 + p / 8) _ h ∙ rw (get_or-take n s (32 + p / 8) 0 h)

set-patch : (s : List ℕ) (i v : ℕ) → i < length s → set s i v ≡ patch s i (v ∷ [])
unfolding patch
set-patch s i v h = set_split s i v h ∙ rw add-one

module _ (g : Geometry) (s : List ℕ) (f : Fitting g s) where
  -- a page's bit is written
  module _ (p : ℕ) (v : Bool) (h : p < g.pages) where
    with_is : with_bit s p v ≡ patch s (32 + p / 8) (put_bit v (p % 8) (get_or s (32 + p / 8) 0) ∷ [])
    unfolding with_bit
    with_is = set-patch s (32 + p / 8) _ (let a = bit-fits g s p f h in let b = front_fits g s f in omega arith)

    with_room : 32 + p / 8 + 1 ≤ front g.pages
    with_room = omega (arith, bit-fits g s p f h)

    in_store : 32 + p / 8 + 1 ≤ length s
    in_store = let b = front_fits g s f in omega (arith, with_room)

    pub length_with : length (with_bit s p v) ≡ length s
    length_with = ap length with_is ∙ length-patch s (32 + p / 8) _ in_store

    pub opened_with : opened (with_bit s p v) ≡ opened s
    opened_with = ap opened with_is ∙ opened-patch s (32 + p / 8) _ in_store (omega arith)

    pub generation_with : generation_of (with_bit s p v) ≡ generation_of s
    generation_with = ap generation_of with_is ∙ generation-patch s (32 + p / 8) _ in_store (omega arith)

    pub bits_with : (q : ℕ) → page_bit (with_bit s p v) q ≡ cond (eqb p q) v (page_bit s q)
    bits_with q = bit_with s p q v (omega (arith, in_store))

    pub place_with : (i : ℕ) → place_in g (with_bit s p v) i ≡ place_in g s i
    place_with i = ap (λ (t : List ℕ). place_in g t i) with_is ∙ place_patch_low s (32 + p / 8) _ in_store g i with_room

  -- the generation goes up
  bump_room : 24 + length (le 8 ((generation_of s + 1) % 2 ^ 64)) ≤ 32
  bump_room = rw length-le (omega arith)

  bump_fits : 24 + length (le 8 ((generation_of s + 1) % 2 ^ 64)) ≤ length s
  bump_fits = let b = front_fits g s f in omega (arith, bump_room)

  pub length-bumped : length (bumped s) ≡ length s
  unfolding bumped
  length-bumped = length-patch s 24 _ bump_fits

  pub opened-bumped : opened (bumped s) ≡ opened s
  unfolding bumped
  opened-bumped = opened-patch s 24 _ bump_fits (omega arith)

  pub generation-bumped : generation_of (bumped s) ≡ (generation_of s + 1) % 2 ^ 64
  unfolding bumped
  generation-bumped = doubleword_same s 24 ((generation_of s + 1) % 2 ^ 64) (let b = front_fits g s f in omega arith) (mod-lt (generation_of s + 1) (pow_pos 64))

  pub bits-bumped : (q : ℕ) → page_bit (bumped s) q ≡ page_bit s q
  unfolding bumped
  bits-bumped q = bit-patch_low s 24 _ bump_fits q bump_room

  pub place_bumped : (i : ℕ) → place_in g (bumped s) i ≡ place_in g s i
  unfolding bumped
  place_bumped i = place_patch_low s 24 _ bump_fits g i (omega (arith, bump_room))

  -- a place is written
  module _ (j : ℕ) (rec : List ℕ) (h : j < 2 ^ g.e) (l : length rec ≡ g.stride) where
    put_fits : place_at g j + length rec ≤ length s
    put_fits = rw l (place_fits g s j f h)

    pub length_put : length (patch s (place_at g j) rec) ≡ length s
    length_put = length-patch s (place_at g j) rec put_fits

    pub opened_put : opened (patch s (place_at g j) rec) ≡ opened s
    opened_put = opened-patch s (place_at g j) rec put_fits (omega arith)

    pub generation_put : generation_of (patch s (place_at g j) rec) ≡ generation_of s
    generation_put = generation-patch s (place_at g j) rec put_fits (omega arith)

    pub bits_put : (q : ℕ) → q < g.pages → page_bit (patch s (place_at g j) rec) q ≡ page_bit s q
    bits_put q b = bit-patch_high s (place_at g j) rec put_fits q (let w = bit-fits g s q f b in omega arith)

    pub front_put : part (patch s (place_at g j) rec) 0 (front g.pages) ≡ part s 0 (front g.pages)
    front_put = part-before s (place_at g j) rec 0 (front g.pages) put_fits (omega arith)

    pub place_put : (i : ℕ) → place_in g (patch s (place_at g j) rec) i ≡ cond (eqb j i) rec (place_in g s i)
    place_put i = go (eqb j i) refl
      where
        other : Dec (i < j) → (i ≡ j → ⊥) → place_in g (patch s (place_at g j) rec) i ≡ place_in g s i
        other (yes b) n = part-before s (place_at g j) rec (place_at g i) g.stride put_fits (let w = after g.stride i j b in omega arith)
        other (no b) n = part_behind s (place_at g j) rec (place_at g i) g.stride put_fits (let w = after g.stride j i (omega arith) in omega arith)

        go : (t : Bool) → eqb j i ≡ t → place_in g (patch s (place_at g j) rec) i ≡ cond t rec (place_in g s i)
        go true e = rw (← eqb-true j i e) (ap (part (patch s (place_at g j) rec) (place_at g j)) (sym l) ∙ part_same s (place_at g j) rec put_fits)
        go false e = other (dec_lt i j) (λ c. eqb-false j i e (sym c))

-- a walk over all places with a function that keeps their length
module _ (g : Geometry) (s : List ℕ) (f : Fitting g s) (make : List ℕ → List ℕ) (keeps : (p : List ℕ) → length p ≡ g.stride → length (make p) ≡ g.stride) where
  walked : ℕ → List ℕ
  walked n = each_place make (front g.pages) g.stride n s

  -- what is left after n places
  record Walked (n : ℕ) (z : List ℕ) : Type 0 where
    fits : Fitting g z
    sound : opened z ≡ opened s
    age : generation_of z ≡ generation_of s
    bits : (q : ℕ) → q < g.pages → page_bit z q ≡ page_bit s q
    fronts : part z 0 (front g.pages) ≡ part s 0 (front g.pages)
    places : (i : ℕ) → place_in g z i ≡ cond (ltb i n) (make (place_in g s i)) (place_in g s i)

  ltb_step : (i n : ℕ) → (n ≡ i → ⊥) → ltb i n ≡ ltb i (suc n)
  ltb_step i n d = go (dec_lt i n)
    where
      go : Dec (i < n) → ltb i n ≡ ltb i (suc n)
      go (yes h) = lt-ltb i n h ∙ sym (lt-ltb i (suc n) (omega arith))
      go (no h) = le-ltb i n (omega arith) ∙ sym (le-ltb i (suc n) (omega arith))

  step : (n : ℕ) → n < 2 ^ g.e → (z : List ℕ) → Walked n z → Walked (suc n) (patch z (place_at g n) (make (place_in g z n)))
  step n h z w = record {
    fits = record { bounds = f.bounds; exact = length_put g z fz n p h l ∙ fz.exact };
    sound = opened_put g z fz n p h l ∙ w.sound;
    age = generation_put g z fz n p h l ∙ w.age;
    bits = λ q b. bits_put g z fz n p h l q b ∙ w.bits q b;
    fronts = front_put g z fz n p h l ∙ w.fronts;
    places = λ i. place_put g z fz n p h l i ∙ one i (eqb n i) refl;
  }
    where
      fz : Fitting g z
      fz = w.fits

      p : List ℕ
      p = make (place_in g z n)

      l : length p ≡ g.stride
      l = keeps (place_in g z n) (length_part z (place_at g n) g.stride (place_fits g z n fz h))

      one : (i : ℕ) (t : Bool) → eqb n i ≡ t → cond t p (place_in g z i) ≡ cond (ltb i (suc n)) (make (place_in g s i)) (place_in g s i)
      one i true e =
          let same : n ≡ i = eqb-true n i e in
          rw (lt-ltb i (suc n) (omega arith), ← same) (ap make (w.places n ∙ rw (le-ltb n n (omega arith))))
      one i false e = w.places i ∙ rw (ltb_step i n (eqb-false n i e))

  walk : (n : ℕ) → n ≤ 2 ^ g.e → Walked n (walked n)
  unfolding each_place walked
  walk zero h = record { fits = f; sound = refl; age = refl; bits = λ q b. refl; fronts = refl; places = λ i. rw (le-ltb i 0 (omega arith)) }
  walk (suc n) h = step n (omega arith) (walked n) (walk n (omega arith))

  all : Walked (2 ^ g.e) (walked (2 ^ g.e))
  all = walk (2 ^ g.e) (omega arith)

  pub fitting_each : Fitting g (each_place make (front g.pages) g.stride (2 ^ g.e) s)
  unfolding walked
  fitting_each = all.fits

  pub opened_each : opened (each_place make (front g.pages) g.stride (2 ^ g.e) s) ≡ opened s
  unfolding walked
  opened_each = all.sound

  pub generation_each : generation_of (each_place make (front g.pages) g.stride (2 ^ g.e) s) ≡ generation_of s
  unfolding walked
  generation_each = all.age

  pub bits_each : (q : ℕ) → q < g.pages → page_bit (each_place make (front g.pages) g.stride (2 ^ g.e) s) q ≡ page_bit s q
  unfolding walked
  bits_each = all.bits

  pub front_each : part (each_place make (front g.pages) g.stride (2 ^ g.e) s) 0 (front g.pages) ≡ part s 0 (front g.pages)
  unfolding walked
  front_each = all.fronts

  pub place_each : (i : ℕ) → i < 2 ^ g.e → place_in g (each_place make (front g.pages) g.stride (2 ^ g.e) s) i ≡ make (place_in g s i)
  unfolding walked
  place_each i h = all.places i ∙ rw (lt-ltb i (2 ^ g.e) h)

-- the i-th of n equal places
copies-part : (z i n : ℕ) (p : List ℕ) → length p ≡ z → i < n → take z (drop (z * i) (copies n p)) ≡ p
unfolding copies
copies-part z i zero p l h = absurd (omega arith)
copies-part z zero (suc n) p l h = rw mul-zero (take_at p (copies n p) z l)
copies-part z (suc i) (suc n) p l h =
    ap (take z) (ap (λ (k : ℕ). drop k (p ++ copies n p)) shape ∙ sym (drop-drop (z * i) z (p ++ copies n p)) ∙ ap (drop (z * i)) (drop_at p (copies n p) z l))
    ∙ copies-part z i n p l (omega arith)
  where
    shape : z * suc i ≡ z + z * i
    shape = mul-suc z i ∙ add_comm (z * i) z

-- a header of any 32 bytes, a zero bitmap, empty places
module _ (g : Geometry) (b : Bounded g) (h : List ℕ) (l : length h ≡ 32) where
  abbrev zeros : List ℕ
  zeros = replicate (front g.pages - 32) 0

  abbrev places : List ℕ
  places = copies (2 ^ g.e) (empty_place g.stride)

  long : length zeros ≡ front g.pages - 32
  long = length-replicate {A = ℕ} (front g.pages - 32) 0

  empty_long : length (empty_place g.stride) ≡ g.stride
  empty_long = length_empty g.stride (omega (arith, b.room))

  pub fitting_blank : Fitting g (h ++ blank g)
  fitting_blank = record { bounds = b; exact = simp (length-append, length-append) (omega (arith, long, length-copies (2 ^ g.e) (empty_place g.stride) g.stride empty_long)) }

  pub byte_blank : (k : ℕ) → k < 32 → get_or (h ++ blank g) k 0 ≡ get_or h k 0
  byte_blank k c = get_or-append h (blank g) 0 k (omega arith)

  pub bits-blank : (q : ℕ) → q < g.pages → page_bit (h ++ blank g) q ≡ false
  unfolding page_bit
  bits-blank q c =
      let byte : get_or (h ++ blank g) (32 + q / 8) 0 ≡ 0 =
      ap (λ (k : ℕ). get_or (h ++ blank g) (k + q / 8) 0) (sym l) ∙ get_or-append-add h (blank g) (q / 8) 0
      ∙ get_or-append zeros places 0 (q / 8) (omega (arith, long)) ∙ get_or-replicate (front g.pages - 32) (q / 8) 0 0 (omega arith) in
      rw byte (zero_bit (q % 8))

  pub place_blank : (i : ℕ) → i < 2 ^ g.e → place_in g (h ++ blank g) i ≡ empty_place g.stride
  unfolding part
  place_blank i c =
      ap (take g.stride)
      (sym (drop-drop (g.stride * i) (front g.pages) (h ++ blank g))
      ∙ ap (drop (g.stride * i)) (ap (drop (front g.pages)) (sym (append_assoc h zeros places)) ∙ drop_at (h ++ zeros) places (front g.pages) (simp length-append (omega (arith, long)))))
      ∙ copies-part g.stride i (2 ^ g.e) (empty_place g.stride) empty_long c

-- a flush
module _ (g : Geometry) (s : List ℕ) (f : Fitting g s) where
  kept_long : length (take 32 s) ≡ 32
  kept_long = length-take-le 32 s (let w = front_fits g s f in omega arith)

  pub fitting_flushed : Fitting g (take 32 s ++ blank g)
  fitting_flushed = fitting_blank g f.bounds (take 32 s) kept_long

  kept_byte : (k : ℕ) → k < 32 → get_or (take 32 s ++ blank g) k 0 ≡ get_or s k 0
  kept_byte k h = byte_blank g f.bounds (take 32 s) kept_long k h ∙ get_or-take 32 s k 0 h

  pub opened-flushed : opened (take 32 s ++ blank g) ≡ opened s
  opened-flushed = opened_same s (take 32 s ++ blank g) (fitting_flushed.exact ∙ sym f.exact) (λ k h. kept_byte k (omega arith))

  pub generation-flushed : generation_of (take 32 s ++ blank g) ≡ generation_of s
  generation-flushed = same_word 24 (take 32 s ++ blank g) s (λ k h c. kept_byte k (omega arith))

  pub bits-flushed : (q : ℕ) → q < g.pages → page_bit (take 32 s ++ blank g) q ≡ false
  bits-flushed = bits-blank g f.bounds (take 32 s) kept_long

  pub place_flushed : (i : ℕ) → i < 2 ^ g.e → place_in g (take 32 s ++ blank g) i ≡ empty_place g.stride
  place_flushed = place_blank g f.bounds (take 32 s) kept_long

-- a new store
module _ (reading e base pages : ℕ) (w : in_bounds reading e base pages ≡ true) where
  pub header_long : length (header (geometry reading e base pages) 1) ≡ 32
  header_long = simp (length-append, length-le)

  pub opened_made : opened (header (geometry reading e base pages) 1 ++ blank (geometry reading e base pages)) ≡ Some (geometry reading e base pages)
  unfolding le
  opened_made = opened-sound made head ∙ ap Some is
    where
      g : Geometry
      g = geometry reading e base pages

      b : Bounded g
      b = bounds_are reading e base pages w

      made : List ℕ
      made = header g 1 ++ blank g

      fits : Fitting g made
      fits = fitting_blank g b (header g 1) header_long

      base_is : doubleword_at made 8 ≡ base
      base_is = doubleword_le base [] ∙ mod-eq_of_lt (omega (arith, b.below))

      pages_is : doubleword_at made 16 ≡ pages
      pages_is = doubleword_le pages [] ∙ mod-eq_of_lt (omega (arith, b.most))

      is : stated made ≡ g
      is = ap₂ (geometry reading e) base_is pages_is

      head : Header made
      head = record {
        long = let z = front_fits g made fits in omega arith;
        signed = (b.known, refl);
        bounded = ap₂ (sized e) base_is pages_is ∙ (and_both (reading_known reading) _ w).1;
        exact = fits.exact ∙ ap store_len (sym is);
      }

  pub generation_made : generation_of (header (geometry reading e base pages) 1 ++ blank (geometry reading e base pages)) ≡ 1
  unfolding le
  generation_made = refl

  pub bits_made : (q : ℕ) → q < pages → page_bit (header (geometry reading e base pages) 1 ++ blank (geometry reading e base pages)) q ≡ false
  bits_made = bits-blank (geometry reading e base pages) (bounds_are reading e base pages w) (header (geometry reading e base pages) 1) header_long

  pub place_made : (i : ℕ) → i < 2 ^ e → place_in (geometry reading e base pages) (header (geometry reading e base pages) 1 ++ blank (geometry reading e base pages)) i ≡ empty_place 1040
  place_made = place_blank (geometry reading e base pages) (bounds_are reading e base pages w) (header (geometry reading e base pages) 1) header_long

-- stores of one geometry with the same front and the same places are the same
module _ (g : Geometry) (s z : List ℕ) (f : Fitting g s) (d : Fitting g z) where
  pub store_ext : part s 0 (front g.pages) ≡ part z 0 (front g.pages) → ((i : ℕ) → i < 2 ^ g.e → place_in g s i ≡ place_in g z i) → s ≡ z
  store_ext same places = ext_get_or 0 s z (f.exact ∙ sym d.exact) (λ k h. go k h (dec_lt k first))
    where
      first : ℕ
      first = front g.pages

      byte : (t : List ℕ) (at n j k : ℕ) → j < n → k ≡ at + j → get_or t k 0 ≡ get_or (part t at n) j 0
      byte t at n j k h e = ap (λ (x : ℕ). get_or t x 0) e ∙ sym (get_or-part t at n j h)

      go : (k : ℕ) → k < length s → Dec (k < first) → get_or s k 0 ≡ get_or z k 0
      go k h (yes b) = byte s 0 first k k b (omega arith) ∙ ap (λ (l : List ℕ). get_or l k 0) same ∙ sym (byte z 0 first k k b (omega arith))
      go k h (no b) =
          let n = k - first in
          let i = n / g.stride in
          let j = n % g.stride in
          let some : 0 < g.stride = omega (arith, f.bounds.room) in
          let hj : j < g.stride = mod-lt n some in
          let hi : i < 2 ^ g.e = (div-lt_iff_lt-mul some).1 (rw (mul_comm (2 ^ g.e) g.stride) (omega (arith, f.exact))) in
          let at : k ≡ place_at g i + j = omega (arith, div-add-mod' n g.stride, mul_comm i g.stride) in
          byte s (place_at g i) g.stride j k hj at ∙ ap (λ (l : List ℕ). get_or l j 0) (places i hi) ∙ sym (byte z (place_at g i) g.stride j k hj at)

-- zeros behind the header, and then the address of an empty place for each
module _ (g : Geometry) (s : List ℕ) (f : Fitting g s) where
  zeroed : List ℕ
  zeroed = patch s 32 (replicate (length s - 32) 0)

  first : ℕ
  first = front g.pages

  behind : ℕ
  behind = length s - 32

  header_in : 32 ≤ length s
  header_in = let w = front_fits g s f in omega arith

  zeros_long : length (replicate {A = ℕ} behind 0) ≡ behind
  zeros_long = length-replicate {A = ℕ} behind 0

  zeros_fit : 32 + length (replicate {A = ℕ} behind 0) ≤ length s
  unfolding behind
  zeros_fit = omega (arith, zeros_long, header_in)

  fitting_zeroed : Fitting g zeroed
  unfolding zeroed behind
  fitting_zeroed = record { bounds = f.bounds; exact = length-patch s 32 (replicate behind 0) zeros_fit ∙ f.exact }

  -- header and bitmap, and then zeros
  zeroed-is : zeroed ≡ (take 32 s ++ replicate (first - 32) 0) ++ replicate (g.stride * 2 ^ g.e) 0
  unfolding zeroed behind first patch
  zeroed-is =
      rw (drop_of_length-le s none_left, append-nil)
      (ap (λ (l : List ℕ). take 32 s ++ l) (ap (λ (n : ℕ). replicate {A = ℕ} n 0) split ∙ sym (replicate-append-replicate (first - 32) (g.stride * 2 ^ g.e) 0))
      ∙ sym (append_assoc (take 32 s) (replicate (first - 32) 0) (replicate (g.stride * 2 ^ g.e) 0)))
    where
      none_left : length s ≤ 32 + length (replicate {A = ℕ} (length s - 32) 0)
      none_left = omega (arith, zeros_long, header_in)

      split : length s - 32 ≡ first - 32 + g.stride * 2 ^ g.e
      split = omega (arith, f.exact)

  front_long : length (take 32 s ++ replicate {A = ℕ} (first - 32) 0) ≡ first
  unfolding first
  front_long = simp (length-append, length-take, length-replicate) (omega (arith, header_in))

  front_of : (rest : List ℕ) → part ((take 32 s ++ replicate (first - 32) 0) ++ rest) 0 first ≡ take 32 s ++ replicate (first - 32) 0
  unfolding part
  front_of rest = take_at (take 32 s ++ replicate (first - 32) 0) rest first front_long

  zero_place : (i : ℕ) → i < 2 ^ g.e → place_in g zeroed i ≡ replicate g.stride 0
  unfolding zeroed behind
  zero_place i h = ext_get_or 0 (place_in g zeroed i) (replicate g.stride 0) (long ∙ sym (length-replicate {A = ℕ} g.stride 0)) (λ j c. byte j (omega (arith, long)))
    where
      long : length (place_in g zeroed i) ≡ g.stride
      long = length_part zeroed (place_at g i) g.stride (place_fits g zeroed i fitting_zeroed h)

      byte : (j : ℕ) → j < g.stride → get_or (place_in g zeroed i) j 0 ≡ get_or (replicate g.stride 0) j 0
      byte j c =
          let k = place_at g i + j in
          let at : k ≡ 32 + (k - 32) = omega arith in
          let less : k - 32 < behind = let w = place_fits g zeroed i fitting_zeroed h in omega (arith, f.exact, fitting_zeroed.exact) in
          get_or-part zeroed (place_at g i) g.stride j c
          ∙ ap (λ (n : ℕ). get_or zeroed n 0) at
          ∙ sym (get_or-part zeroed 32 behind (k - 32) less)
          ∙ ap (λ (l : List ℕ). get_or l (k - 32) 0) (ap (part zeroed 32) (sym zeros_long) ∙ part_same s 32 (replicate behind 0) zeros_fit)
          ∙ get_or-replicate behind (k - 32) 0 0 less
          ∙ sym (get_or-replicate g.stride j 0 0 c)

  keeps_stride : (p : List ℕ) → length p ≡ g.stride → length (vacated p) ≡ g.stride
  keeps_stride p l = length-vacated p (omega (arith, f.bounds.room)) ∙ l

  pub wiped : each_place vacated (front g.pages) g.stride (2 ^ g.e) (patch s 32 (replicate (length s - 32) 0)) ≡ take 32 s ++ blank g
  unfolding zeroed first vacated
  wiped =
      store_ext g (each_place vacated first g.stride (2 ^ g.e) zeroed) (take 32 s ++ blank g) (fitting_each g zeroed fitting_zeroed vacated keeps_stride) (fitting_flushed g s f)
      (front_each g zeroed fitting_zeroed vacated keeps_stride
      ∙ ap (λ (l : List ℕ). part l 0 first) zeroed-is ∙ front_of (replicate (g.stride * 2 ^ g.e) 0)
      ∙ sym (ap (λ (l : List ℕ). part l 0 first) (sym (append_assoc (take 32 s) (replicate (first - 32) 0) (copies (2 ^ g.e) (empty_place g.stride)))) ∙ front_of (copies (2 ^ g.e) (empty_place g.stride))))
      (λ i h. place_each g zeroed fitting_zeroed vacated keeps_stride i h ∙ ap vacated (zero_place i h) ∙ empty_made g.stride (omega (arith, f.bounds.room)) ∙ sym (place_flushed g s f i h))
