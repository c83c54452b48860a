-- Laws of numbers in bytes, and of a list with a part replaced.
-- Assumes nothing.
use mathlib.Core.Path.{◌≡◌, refl, sym, ap, ◌∙◌}
use mathlib.Core.List.{List, [], ◌∷◌, ◌++◌, append-nil, append_assoc}
use Prim.Native.Nat.{ℕ, zero, suc, ◌+◌, ◌-◌, ◌*◌, ◌/◌, ◌%◌, ◌^◌, ◌≤◌, ◌<◌}
use native.Mathlib.Omega.{arith}
use native.Mathlib.Nat.{add_assoc, add-sub_cancel_left, add-sub_of_le, div-div-eq-div-mul, mod-eq_of_lt}
use lib.ListN.{length, take, drop, get_or, length-append, length-take, length-drop, take-append-drop, drop_of_length-le}
use lib.Seq.{drop-drop, take_all, take_at, drop_at, take-append-le, drop-append-le, length-take-le, get_or-take, get_or-drop}
use borrow.Rule.Slice.PartMut.{put_mid}
use Rattle.std.specs.Int.{w16, w32, w64, to_le_bytes, from_le_bytes}
use Rattle.bits.specs.Bytes.{le, part, patch, halfword_at, word_at, doubleword_at}

pub length-le : (n x : ℕ) → length (le n x) ≡ n
unfolding le
length-le zero x = refl
length-le (suc n) x = ap suc (length-le n (x / 256))

-- the library's bytes of a doubleword are these
pub to_le_bytes_lem : (x : ℕ) → to_le_bytes w64 x ≡ le 8 x
unfolding le
to_le_bytes_lem x = simp div-div-eq-div-mul

-- a number is read back from its bytes
two : (x : ℕ) → x % 256 + 2 ^ 8 * (x / 256 % 256) ≡ x % 2 ^ 16
two x = omega arith

four : (x : ℕ) → x % 2 ^ 16 + 2 ^ 16 * (x / 2 ^ 16 % 2 ^ 16) ≡ x % 2 ^ 32
four x = omega arith

eight : (x : ℕ) → x % 2 ^ 32 + 2 ^ 32 * (x / 2 ^ 32 % 2 ^ 32) ≡ x % 2 ^ 64
eight x = omega arith

pub halfword_le : (x : ℕ) (rest : List ℕ) → halfword_at (le 2 x ++ rest) 0 ≡ x % 2 ^ 16
unfolding le
halfword_le x rest = two x

pub word_le : (x : ℕ) (rest : List ℕ) → word_at (le 4 x ++ rest) 0 ≡ x % 2 ^ 32
unfolding le
word_le x rest = rw (two x, two (x / 256 / 256), div-div-eq-div-mul x 256 256) (four x)

pub doubleword_le : (x : ℕ) (rest : List ℕ) → doubleword_at (le 8 x ++ rest) 0 ≡ x % 2 ^ 64
unfolding le
doubleword_le x rest =
    let high = x / 256 / 256 / 256 / 256 in
    let e : high ≡ x / 2 ^ 32 = simp div-div-eq-div-mul in
    rw (word_le x rest, word_le high rest, e) (eight x)

pub length-patch : (s : List ℕ) (at : ℕ) (p : List ℕ) → at + length p ≤ length s → length (patch s at p) ≡ length s
unfolding patch
length-patch s at p h = simp (length-append, length-take, length-drop) (omega arith)

-- a part that was lent and has come back as p: one of n elements, and `&mut s[at..at + n]`
pub put_part : (s : List ℕ) (at n : ℕ) (q p : List ℕ) → q ≡ p → length p ≡ n → put_mid at n s q ≡ patch s at p
unfolding patch
put_part s at n q p e l = rw (e, ← l, drop-drop)

pub put_back : (s : List ℕ) (at n : ℕ) (q p : List ℕ) → q ≡ p → length p ≡ n → put_mid at (at + n - at) s q ≡ patch s at p
unfolding patch
put_back s at n q p e l = rw add-sub_cancel_left (put_part s at n q p e l)

-- all of src copied over a list of the same length
pub over : (src dst : List ℕ) → length dst ≡ length src → take (length src) src ++ drop (length src) dst ≡ src
over src dst h =
    let a : length src ≤ length src = omega arith in
    let b : length dst ≤ length src = omega arith in
    rw (take_all (length src) src a, drop_of_length-le dst b, append-nil src)

-- a part of two pieces is put one piece after the other
pub patch-append : (s : List ℕ) (at : ℕ) (p q : List ℕ) → at + length p ≤ length s → patch s at (p ++ q) ≡ patch (patch s at p) (at + length p) q
unfolding patch
patch-append s at p q h =
    let front : length (take at s ++ p) ≡ at + length p = simp (length-append, length-take) (omega arith) in
    let t : take (at + length p) (take at s ++ (p ++ drop (at + length p) s)) ≡ take at s ++ p =
    rw (← append_assoc) (take_at (take at s ++ p) (drop (at + length p) s) (at + length p) front) in
    let sum : at + length p + length q ≡ at + (length p + length q) = omega arith in
    let d : drop (at + length p + length q) (take at s ++ (p ++ drop (at + length p) s)) ≡ drop (at + (length p + length q)) s =
    rw (← append_assoc, ← drop-drop) (ap (drop (length q)) (drop_at (take at s ++ p) (drop (at + length p) s) (at + length p) front) ∙ drop-drop (length q) (at + length p) s ∙ ap (λ (n : ℕ). drop n s) sum) in
    rw (t, d, length-append) (simp append_assoc)

pub patch_nothing : (s : List ℕ) (at : ℕ) → patch s at [] ≡ s
unfolding patch
patch_nothing s at = let e : at + 0 ≡ at = omega arith in rw e (take-append-drop at s)

-- a list that is replaced whole
pub patch_whole : (s p : List ℕ) → length s ≡ length p → patch s 0 p ≡ p
unfolding patch
patch_whole s p h =
    let b : length s ≤ 0 + length p = omega arith in
    rw (drop_of_length-le s b, append-nil p)

-- the lowest of the bytes
pub take-le : (n m x : ℕ) → n ≤ m → take n (le m x) ≡ le n x
unfolding le
take-le zero m x h = refl
take-le (suc n) zero x h = absurd (omega arith)
take-le (suc n) (suc m) x h = ap (λ (l : List ℕ). x % 256 ∷ l) (take-le n m (x / 256) (omega arith))

-- no bytes; the lowest byte, and the bytes above it
pub le-zero : (x : ℕ) → le 0 x ≡ []
unfolding le
le-zero x = refl

pub le_cons : (n b m : ℕ) {l : List ℕ} → b < 256 → le n m ≡ l → le (suc n) (b + 256 * m) ≡ b ∷ l
unfolding le
le_cons n b m h e =
    let low : (b + 256 * m) % 256 ≡ b = omega arith in
    let high : (b + 256 * m) / 256 ≡ m = omega arith in
    rw (low, high, e)

pub length_part : (s : List ℕ) (at n : ℕ) → at + n ≤ length s → length (part s at n) ≡ n
unfolding part
length_part s at n h = simp (length-take, length-drop) (omega arith)

-- one element of a part
pub get_or-part : (s : List ℕ) (at n j : ℕ) → j < n → get_or (part s at n) j 0 ≡ get_or s (at + j) 0
unfolding part
get_or-part s at n j h = get_or-take n (drop at s) j 0 h ∙ get_or-drop at s j 0

-- the part that was replaced
pub part_same : (s : List ℕ) (at : ℕ) (p : List ℕ) → at + length p ≤ length s → part (patch s at p) at (length p) ≡ p
unfolding part patch
part_same s at p h =
    let l : length (take at s) ≡ at = length-take-le at s (omega arith) in
    rw (drop_at, take_at)

-- a part within the first of two lists
part_first : (xs ys : List ℕ) (k n : ℕ) → k + n ≤ length xs → part (xs ++ ys) k n ≡ part xs k n
unfolding part
part_first xs ys k n h =
    let a : k ≤ length xs = omega arith in
    let b : n ≤ length (drop k xs) = simp length-drop (omega arith) in
    rw (drop-append-le, take-append-le)

-- a part that ends before what was replaced, and one that starts behind it
pub part-before : (s : List ℕ) (at : ℕ) (p : List ℕ) (k n : ℕ) → at + length p ≤ length s → k + n ≤ at → part (patch s at p) k n ≡ part s k n
unfolding part patch
part-before s at p k n h b =
    let l : k + n ≤ length (take at s) = simp length-take (omega arith) in
    part_first (take at s) _ k n l ∙ sym (part_first (take at s) (drop at s) k n l) ∙ ap (λ (z : List ℕ). part z k n) (take-append-drop at s)

pub part_behind : (s : List ℕ) (at : ℕ) (p : List ℕ) (k n : ℕ) → at + length p ≤ length s → at + length p ≤ k → part (patch s at p) k n ≡ part s k n
unfolding part patch
part_behind s at p k n h b =
    let l : length (take at s ++ p) ≡ at + length p = simp (length-append, length-take) (omega arith) in
    ap (take n)
    (ap (λ (z : ℕ). drop z (patch s at p)) (sym (add-sub_of_le b))
    ∙ sym (drop-drop (k - (at + length p)) (at + length p) (patch s at p))
    ∙ ap (drop (k - (at + length p))) (rw (← append_assoc, drop_at))
    ∙ drop-drop (k - (at + length p)) (at + length p) s
    ∙ ap (λ (z : ℕ). drop z s) (add-sub_of_le b))

-- one element before what was replaced, and one behind it
module _ (s : List ℕ) (at : ℕ) (p : List ℕ) (f : at + length p ≤ length s) where
  by_part : (k : ℕ) → part (patch s at p) k 1 ≡ part s k 1 → get_or (patch s at p) k 0 ≡ get_or s k 0
  by_part k e = ap (λ (n : ℕ). get_or (patch s at p) n 0) zero_end ∙ sym (get_or-part (patch s at p) k 1 0 (omega arith)) ∙ ap (λ (l : List ℕ). get_or l 0 0) e ∙ get_or-part s k 1 0 (omega arith) ∙ ap (λ (n : ℕ). get_or s n 0) (sym zero_end)
    where
      zero_end : k ≡ k + 0
      zero_end = omega arith

  pub get_or-before : (k : ℕ) → k < at → get_or (patch s at p) k 0 ≡ get_or s k 0
  get_or-before k h = by_part k (part-before s at p k 1 f (omega arith))

  pub get_or-behind : (k : ℕ) → at + length p ≤ k → get_or (patch s at p) k 0 ≡ get_or s k 0
  get_or-behind k h = by_part k (part_behind s at p k 1 f h)

-- the library reads a part's bytes as these do
pub halfword_of_part : (s : List ℕ) (at : ℕ) → from_le_bytes w16 (part s at 2) ≡ halfword_at s at
halfword_of_part s at =
    let e0 : at + 0 ≡ at = omega arith in
    rw (get_or-part s at 2 0 (omega arith), get_or-part s at 2 1 (omega arith), e0) (omega arith)

pub word_of_part : (s : List ℕ) (at : ℕ) → from_le_bytes w32 (part s at 4) ≡ word_at s at
word_of_part s at =
    let e0 : at + 0 ≡ at = omega arith in
    let e3 : at + 2 + 1 ≡ at + 3 = omega arith in
    rw (get_or-part s at 4 0 (omega arith), get_or-part s at 4 1 (omega arith), get_or-part s at 4 2 (omega arith), get_or-part s at 4 3 (omega arith), e0, e3) (omega arith)

pub doubleword_of_part : (s : List ℕ) (at : ℕ) → from_le_bytes w64 (part s at 8) ≡ doubleword_at s at
doubleword_of_part s at =
    let e0 : at + 0 ≡ at = omega arith in
    let e3 : at + 2 + 1 ≡ at + 3 = omega arith in
    let e5 : at + 4 + 1 ≡ at + 5 = omega arith in
    let e6 : at + 4 + 2 ≡ at + 6 = omega arith in
    let e7 : at + 6 + 1 ≡ at + 7 = omega arith in
    rw (get_or-part s at 8 0 (omega arith), get_or-part s at 8 1 (omega arith), get_or-part s at 8 2 (omega arith), get_or-part s at 8 3 (omega arith), get_or-part s at 8 4 (omega arith), get_or-part s at 8 5 (omega arith), get_or-part s at 8 6 (omega arith), get_or-part s at 8 7 (omega arith), e0, e3, e5, e6, e7) (omega arith)

-- a doubleword is that of its eight bytes
pub doubleword_part : (s : List ℕ) (at n : ℕ) → 8 ≤ n → doubleword_at (part s at n) 0 ≡ doubleword_at s at
doubleword_part s at n h =
    let e0 : at + 0 ≡ at = omega arith in
    rw (get_or-part s at n 0 (omega arith), get_or-part s at n 1 (omega arith), get_or-part s at n 2 (omega arith), get_or-part s at n 3 (omega arith), get_or-part s at n 4 (omega arith), get_or-part s at n 5 (omega arith), get_or-part s at n 6 (omega arith), get_or-part s at n 7 (omega arith), e0) (simp add_assoc)

-- a doubleword that was put is there, and one elsewhere stays
pub doubleword_same : (s : List ℕ) (at x : ℕ) → at + 8 ≤ length s → x < 2 ^ 64 → doubleword_at (patch s at (le 8 x)) at ≡ x
doubleword_same s at x h b =
    sym (doubleword_part (patch s at (le 8 x)) at 8 (omega arith))
    ∙ ap (λ (l : List ℕ). doubleword_at l 0) (ap (part (patch s at (le 8 x)) at) (sym (length-le 8 x)) ∙ part_same s at (le 8 x) (rw length-le h) ∙ sym (append-nil (le 8 x)))
    ∙ doubleword_le x []
    ∙ mod-eq_of_lt b

pub doubleword_before : (s : List ℕ) (at : ℕ) (p : List ℕ) (k : ℕ) → at + length p ≤ length s → k + 8 ≤ at → doubleword_at (patch s at p) k ≡ doubleword_at s k
doubleword_before s at p k h b =
    sym (doubleword_part (patch s at p) k 8 (omega arith)) ∙ ap (λ (l : List ℕ). doubleword_at l 0) (part-before s at p k 8 h b) ∙ doubleword_part s k 8 (omega arith)

-- a part that is put back with its own start replaced
pub patch-part : (s : List ℕ) (at n : ℕ) (p : List ℕ) → at + n ≤ length s → length p ≤ n → patch s at (patch (part s at n) 0 p) ≡ patch s at p
unfolding patch part
patch-part s at n p h b =
    let there = drop at s in
    let l : length (take n there) ≡ n = length-take-le n there (simp length-drop (omega arith)) in
    let none : 0 + length p ≡ length p = omega arith in
    let long : length (p ++ drop (length p) (take n there)) ≡ n = simp (length-append, length-drop) (omega arith) in
    let rest : drop (length p) (take n there) ++ drop n there ≡ drop (length p) there = sym (drop-append-le (length p) (take n there) (drop n there) (omega arith)) ∙ ap (drop (length p)) (take-append-drop n there) in
    rw (none, long) (ap (λ (z : List ℕ). take at s ++ z) (append_assoc p (drop (length p) (take n there)) (drop (at + n) s) ∙ ap (λ (z : List ℕ). p ++ z) (ap (λ (z : List ℕ). drop (length p) (take n there) ++ z) (sym (drop-drop n at s)) ∙ rest ∙ drop-drop (length p) at s)))
