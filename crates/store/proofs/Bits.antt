-- Laws of the page bits: one is written, and all others stay.
-- Assumes nothing.
use Rattle.std.proofs.Common.{◌≡◌, ℕ, ◌+◌, ◌-◌, ◌*◌, ◌/◌, ◌%◌, ◌^◌, ◌<◌, ◌≤◌, min, max, Bool, true, false, cond, eqb, ◌⊎◌, List, length, get_or, set, sym, refl, ap, ◌∙◌, inl, inr, one-mul, arith, lit<, get_or-set_other, get_or-set_same, set-set, pow_mono, eq-eqb, ne_eqb, eqb-true}
use lib.Bits.{bit_and, and_le_r}
use lib.Seq.{set_comm}
use borrow.Author.Tests.{eqb-false}
use Rattle.bits.specs.Bits.{bit, from_bits}
use Rattle.bits.proofs.Bit.{lt-or-ge, bit-lt, bit_above, by_bits, from_bits_same, bit-shl, bit-shl_low, bit-and, bit-or, bit_not}
use Rattle.bits.proofs.Every.{decide}
use Rattle.store.specs.Places.{page_bit, put_bit, with_bit}

-- the bits of a power of two
one_bit : (k j : ℕ) → bit (2 ^ k) j ≡ cond (eqb k j) 1 0
one_bit k j = ap (λ (x : ℕ). bit x j) (sym (one-mul (2 ^ k))) ∙ by (lt-or-ge j k)
  where
    by : (j < k) ⊎ (k ≤ j) → bit (1 * 2 ^ k) j ≡ cond (eqb k j) 1 0
    by (inl h) = rw (ne_eqb k j (λ e. omega arith)) (bit-shl_low 1 k j h)
    by (inr h) =
        decide k j
        (λ e. let z : j - k ≡ 0 = omega arith in rw (eq-eqb k j e) (bit-shl 1 k j h ∙ ap (bit 1) z))
        (λ n. rw (ne_eqb k j n) (bit-shl 1 k j h ∙ bit_above 1 1 (j - k) (lit< tt) (omega arith)))

-- one bit of a byte is put, and the others stay
put_bit_lem : (v : Bool) (k j x : ℕ) → k < 8 → j < 8 → eqb (bit (put_bit v k x) j) 1 ≡ cond (eqb k j) v (eqb (bit x j) 1)
unfolding put_bit
put_bit_lem true k j x hk hj = rw (bit-or x (2 ^ k) j, one_bit k j) (go (eqb k j))
  where
    go : (t : Bool) → eqb (max (bit x j) (cond t 1 0)) 1 ≡ cond t true (eqb (bit x j) 1)
    go true = eq-eqb (max (bit x j) 1) 1 (let h = bit-lt x j in omega arith)
    go false = let e : max (bit x j) 0 ≡ bit x j = omega arith in rw e
put_bit_lem false k j x hk hj =
    let small : 2 ^ k < 2 ^ 8 = pow-lt_8 in
    rw (bit-and x (255 - 2 ^ k) j, bit_not 8 (2 ^ k) j small hj, one_bit k j) (go (eqb k j))
  where
    pow-lt_8 : 2 ^ k < 2 ^ 8
    pow-lt_8 = let h : 2 ^ k ≤ 2 ^ 7 = pow_mono {i = k} {j = 7} (omega arith) in omega arith

    go : (t : Bool) → eqb (min (bit x j) (1 - cond t 1 0)) 1 ≡ cond t false (eqb (bit x j) 1)
    go true = ne_eqb (min (bit x j) 0) 1 (λ h. omega arith)
    go false =
        let h = bit-lt x j in
        let e : min (bit x j) 1 ≡ bit x j = omega arith in
        rw e

-- the bit that was written, and another
pub bit_with : (s : List ℕ) (p q : ℕ) (v : Bool) → 32 + p / 8 < length s → page_bit (with_bit s p v) q ≡ cond (eqb p q) v (page_bit s q)
unfolding page_bit with_bit
bit_with s p q v f = go (eqb (p / 8) (q / 8)) refl
  where
    b : ℕ
    b = put_bit v (p % 8) (get_or s (32 + p / 8) 0)

    same : p / 8 ≡ q / 8 → eqb (p % 8) (q % 8) ≡ eqb p q
    same e = decide p q (λ h. rw h (eq-eqb (q % 8) (q % 8) refl ∙ sym (eq-eqb q q refl))) (λ n. ne_eqb (p % 8) (q % 8) (λ h. n (omega arith)) ∙ sym (ne_eqb p q n))

    go : (t : Bool) → eqb (p / 8) (q / 8) ≡ t → eqb (bit (get_or (set s (32 + p / 8) b) (32 + q / 8) 0) (q % 8)) 1 ≡ cond (eqb p q) v (eqb (bit (get_or s (32 + q / 8) 0) (q % 8)) 1)
    go true e =
        let w : p / 8 ≡ q / 8 = eqb-true _ _ e in
        ap (λ (k : ℕ). eqb (bit (get_or (set s (32 + p / 8) b) (32 + k) 0) (q % 8)) 1) (sym w)
        ∙ ap (λ (x : ℕ). eqb (bit x (q % 8)) 1) (get_or-set_same s (32 + p / 8) b 0 f)
        ∙ put_bit_lem v (p % 8) (q % 8) (get_or s (32 + p / 8) 0) (omega arith) (omega arith)
        ∙ ap (λ (t : Bool). cond t v (eqb (bit (get_or s (32 + p / 8) 0) (q % 8)) 1)) (same w)
        ∙ ap (λ (k : ℕ). cond (eqb p q) v (eqb (bit (get_or s (32 + k) 0) (q % 8)) 1)) w
    go false e =
        rw (get_or-set_other s (32 + p / 8) (32 + q / 8) b 0 (λ h. eqb-false (p / 8) (q / 8) e (omega arith)), ne_eqb p q (λ h. eqb-false (p / 8) (q / 8) e (ap (λ (k : ℕ). k / 8) h)))

-- two bits of a byte are cleared in either order, and so two page bits
clear_comm : (k j x : ℕ) → put_bit false k (put_bit false j x) ≡ put_bit false j (put_bit false k x)
unfolding put_bit
clear_comm k j x = swap (255 - 2 ^ j) (255 - 2 ^ k) (omega arith) (omega arith)
  where
    bits : ℕ → ℕ → ℕ → ℕ
    bits m n i = min (min (bit x i) (bit m i)) (bit n i)

    is : (m n : ℕ) → n < 256 → bit_and (bit_and x m) n ≡ from_bits 8 (bits m n)
    is m n h = by_bits 8 _ (bits m n) (let w = and_le_r (bit_and x m) n in omega arith) (λ i l. rw (bit-and (bit_and x m) n i, bit-and x m i))

    swap : (m n : ℕ) → m < 256 → n < 256 → bit_and (bit_and x m) n ≡ bit_and (bit_and x n) m
    swap m n hm hn = is m n hn ∙ from_bits_same 8 (bits m n) (bits n m) (λ i l. omega arith) ∙ sym (is n m hm)

pub with_comm : (s : List ℕ) (p q : ℕ) → 32 + p / 8 < length s → with_bit (with_bit s p false) q false ≡ with_bit (with_bit s q false) p false
unfolding with_bit
with_comm s p q f = decide (p / 8) (q / 8) same other
  where
    at : ℕ → ℕ
    at k = 32 + k / 8

    off : ℕ → ℕ → ℕ
    off k x = put_bit false (k % 8) x

    -- the byte of both
    same : p / 8 ≡ q / 8 → with_bit (with_bit s p false) q false ≡ with_bit (with_bit s q false) p false
    same e =
        rw (← e)
        (rw (get_or-set_same s (at p) (off p (get_or s (at p) 0)) 0 f, get_or-set_same s (at p) (off q (get_or s (at p) 0)) 0 f)
        (set-set s (at p) _ _ ∙ ap (set s (at p)) (clear_comm (q % 8) (p % 8) (get_or s (at p) 0)) ∙ sym (set-set s (at p) _ _)))

    other : (p / 8 ≡ q / 8 → ⊥) → with_bit (with_bit s p false) q false ≡ with_bit (with_bit s q false) p false
    other n =
        rw (get_or-set_other s (at p) (at q) (off p (get_or s (at p) 0)) 0 (λ h. n (omega arith)), get_or-set_other s (at q) (at p) (off q (get_or s (at q) 0)) 0 (λ h. n (omega arith)))
        (set_comm s (at p) (at q) (off p (get_or s (at p) 0)) (off q (get_or s (at q) 0)) (λ h. n (omega arith)))
