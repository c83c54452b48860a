-- The order of notices: in either order two leave the same store and the same sums, a second in the same page is nothing; and two flushes are one.
-- On any bytes: where the header check refuses, all of them change nothing.
-- Assumes nothing.
use mathlib.Core.Path.{◌≡◌, refl, sym, ap, ap₂, ◌∙◌}
use mathlib.Core.Bool.{Bool, true, false, cond, ◌&&◌}
use mathlib.Core.List.{List, ◌++◌}
use Prim.Native.Nat.{ℕ, ◌+◌, ◌/◌, ◌<◌}
use native.Mathlib.Omega.{arith}
use lib.ListN.{take}
use lib.Seq.{take-take, take_at, take-set-le, length-take-le}
use borrow.Author.Tests.{eq-eqb}
use Rattle.bits.specs.Bytes.{part}
use Rattle.bits.proofs.Every.{decide}
use Rattle.bits.proofs.Bytes.{length_part}
use Rattle.bits.proofs.Tests.{and_both, not_true, true_false}
use Rattle.store.specs.Layout.{front, opened, Bounded, Fitting, holds, memory_page}
use Rattle.store.specs.Places.{page_bit, with_bit, place_in, emptied, blank}
use Rattle.store.specs.declared.Geometry.{Geometry}
use Rattle.store.proofs.Bits.{with_comm}
use Rattle.store.proofs.Known.{holds_are, are_held, page-lt, bit-fits, front_fits}
use Rattle.store.proofs.Places.{emptied_comm}
use Rattle.store.proofs.View.{store_ext, opened-flushed}
use Rattle.cache.specs.Answers.{nothing_done, reported}
use Rattle.cache.specs.Calls.{watched, evicted, noticed_in, report_in, summed, notice_by, notice_call, flush_by, flush_call}
use Rattle.cache.proofs.Checks.{opened-fits}
use Rattle.cache.proofs.Reports.{summed_comm}
use Rattle.cache.proofs.View.{fitting_evicted, bits-evicted, place_evicted, front-evicted, noticed_keeps, opened_noticed, report_apart, watched_apart}
use Rattle.answer.specs.Answer.{done}
use Rattle.std.specs.Prelude.{Option, Some, None}

-- addresses of one page are in memory together, and in the same page of it
held_alike : (g : Geometry) → Bounded g → (x y : ℕ) → x / 4096 ≡ y / 4096 → holds g x ≡ true → holds g y ≡ true
held_alike g b x y same e = let w = holds_are g x e in are_held g y (omega (arith, b.aligned)) (omega (arith, b.aligned))

module _ (g : Geometry) (b : Bounded g) (x y : ℕ) (same : x / 4096 ≡ y / 4096) where
  holds_alike : holds g x ≡ holds g y
  holds_alike = go (holds g x) refl
    where
      go : (t : Bool) → holds g x ≡ t → holds g x ≡ holds g y
      go true e = e ∙ sym (held_alike g b x y same e)
      go false e = e ∙ sym (not_true (holds g y) (λ k. true_false (held_alike g b y x (sym same) k) e))

  page_alike : memory_page g x ≡ memory_page g y
  page_alike = omega (arith, b.aligned)

-- in a store whose header was checked
module _ (g : Geometry) (s : List ℕ) (f : Fitting g s) (a b : ℕ) where
  module _ (same : a / 4096 ≡ b / 4096) where
    watched_alike : watched g s a ≡ watched g s b
    watched_alike = ap₂ (λ (h : Bool) (p : ℕ). h && page_bit s p) (holds_alike g f.bounds a b same) (page_alike g f.bounds a b same)

    -- notices in one page are the same notice
    pub noticed_alike : noticed_in g s a ≡ noticed_in g s b
    unfolding evicted
    noticed_alike = rw (watched_alike, same, page_alike g f.bounds a b same)

    pub report_alike : report_in g s a ≡ report_in g s b
    report_alike = rw (watched_alike, same)

    -- the second finds no bit
    spent-bit : watched g (noticed_in g s a) b ≡ false
    spent-bit = go (watched g s a) refl
      where
        off : (e : watched g s a ≡ true) → page_bit (evicted g s a) (memory_page g b) ≡ false
        off e =
            let able = (and_both (holds g a) _ e).0 in
            rw (← page_alike g f.bounds a b same) (bits-evicted g s f a able (memory_page g a) (page-lt g a able) ∙ rw (eq-eqb (memory_page g a) (memory_page g a) refl))

        nothing : (h : Bool) → (h && false) ≡ false
        nothing true = refl
        nothing false = refl

        go : (t : Bool) → watched g s a ≡ t → watched g (noticed_in g s a) b ≡ false
        go true e = rw (e, off e) (nothing (holds g b))
        go false e = rw (e, sym watched_alike ∙ e)

    pub noticed_again : noticed_in g (noticed_in g s a) b ≡ noticed_in g s a
    noticed_again = rw spent-bit

    pub report_again : report_in g (noticed_in g s a) b ≡ nothing_done
    report_again = rw spent-bit

  -- two pages are emptied in either order
  evicted_comm : (a / 4096 ≡ b / 4096 → ⊥) → holds g a ≡ true → holds g b ≡ true → evicted g (evicted g s a) b ≡ evicted g (evicted g s b) a
  evicted_comm apart ha hb =
      store_ext g (evicted g (evicted g s a) b) (evicted g (evicted g s b) a) (fitting_evicted g (evicted g s a) fa b hb) (fitting_evicted g (evicted g s b) fb a ha)
      (front-evicted g (evicted g s a) fa b hb
      ∙ ap (λ (l : List ℕ). with_bit l (memory_page g b) false) (front-evicted g s f a ha)
      ∙ with_comm (part s 0 (front g.pages)) (memory_page g a) (memory_page g b) (rw (length_part s 0 (front g.pages) (let w = front_fits g s f in omega arith)) (bit-fits g s (memory_page g a) f (page-lt g a ha)))
      ∙ sym (front-evicted g (evicted g s b) fb a ha ∙ ap (λ (l : List ℕ). with_bit l (memory_page g a) false) (front-evicted g s f b hb)))
      (λ i c.
      place_evicted g (evicted g s a) fa b hb i c ∙ ap (emptied (b / 4096)) (place_evicted g s f a ha i c)
      ∙ emptied_comm (a / 4096) (b / 4096) (place_in g s i) apart (low a ha) (low b hb)
      ∙ sym (place_evicted g (evicted g s b) fb a ha i c ∙ ap (emptied (a / 4096)) (place_evicted g s f b hb i c)))
    where
      fa : Fitting g (evicted g s a)
      fa = fitting_evicted g s f a ha

      fb : Fitting g (evicted g s b)
      fb = fitting_evicted g s f b hb

      low : (x : ℕ) → holds g x ≡ true → x / 4096 < 0xF_FFFF_FFFF_FFFF
      low x h = omega (arith, holds_are g x h, f.bounds.below)

module _ (g : Geometry) (s : List ℕ) (f : Fitting g s) (a b : ℕ) where
  noticed_apart : (a / 4096 ≡ b / 4096 → ⊥) → noticed_in g (noticed_in g s a) b ≡ noticed_in g (noticed_in g s b) a
  noticed_apart apart =
      ap (λ (t : Bool). cond t (evicted g (noticed_in g s a) b) (noticed_in g s a)) (watched_apart g s f a b apart)
      ∙ go (watched g s a) refl (watched g s b) refl
      ∙ sym (ap (λ (t : Bool). cond t (evicted g (noticed_in g s b) a) (noticed_in g s b)) (watched_apart g s f b a (λ e. apart (sym e))))
    where
      go : (t : Bool) → watched g s a ≡ t → (u : Bool) → watched g s b ≡ u
          → cond (watched g s b) (evicted g (noticed_in g s a) b) (noticed_in g s a) ≡ cond (watched g s a) (evicted g (noticed_in g s b) a) (noticed_in g s b)
      go true e true k = rw (e, k) (evicted_comm g s f a b apart (and_both (holds g a) _ e).0 (and_both (holds g b) _ k).0)
      go true e false k = rw (e, k)
      go false e true k = rw (e, k)
      go false e false k = rw (e, k)

  pub noticed_comm : noticed_in g (noticed_in g s a) b ≡ noticed_in g (noticed_in g s b) a
  noticed_comm =
      decide (a / 4096) (b / 4096)
      (λ e. noticed_again g s f a b e ∙ noticed_alike g s f a b e ∙ sym (noticed_again g s f b a (sym e)))
      noticed_apart

  pub report_comm : summed (report_in g s a) (report_in g (noticed_in g s a) b) ≡ summed (report_in g s b) (report_in g (noticed_in g s b) a)
  report_comm =
      decide (a / 4096) (b / 4096)
      (λ e. rw (report_again g s f a b e, report_again g s f b a (sym e), report_alike g s f a b e))
      (λ n. rw (report_apart g s f a b n, report_apart g s f b a (λ e. n (sym e))) (summed_comm (report_in g s a) (report_in g s b)))

-- a notice leaves the header
module _ (g : Geometry) (s : List ℕ) (f : Fitting g s) (a : ℕ) where
  head_of : (z : List ℕ) → take 32 z ≡ take 32 (part z 0 (front g.pages))
  unfolding part
  head_of z = sym (take-take 32 (front g.pages) z (omega arith))

  head_evicted : holds g a ≡ true → take 32 (evicted g s a) ≡ take 32 s
  unfolding with_bit
  head_evicted h =
      head_of (evicted g s a) ∙ ap (take 32) (front-evicted g s f a h)
      ∙ take-set-le 32 (part s 0 (front g.pages)) (32 + memory_page g a / 8) _ (omega arith)
      ∙ sym (head_of s)

  pub head_noticed : take 32 (noticed_in g s a) ≡ take 32 s
  head_noticed = noticed_keeps g s a (λ z. take 32 z ≡ take 32 s) refl head_evicted

-- what holds of a store, and of no store, holds of any bytes
pub on_any_bytes : (s : List ℕ) (P : Option Geometry → Type 0) → ((g : Geometry) → Fitting g s → P (Some g)) → P None → P (opened s)
on_any_bytes s P good bad = go (opened s) refl
  where
    go : (o : Option Geometry) → opened s ≡ o → P o
    go (Some g) e = good g (opened-fits s g e)
    go None e = bad

-- The laws of the calls.

-- what the header check finds stays, and with it the number of each call that comes after
pub notice-opened : (s : List ℕ) (a : ℕ) → opened (notice_call s a).1 ≡ opened s
notice-opened s a = on_any_bytes s (λ o. opened (notice_by o s a).1 ≡ opened s) (λ g f. opened_noticed g s f a) refl

-- the second of two notices, by what the check found before the first
second : (s : List ℕ) (a b : ℕ) → notice_call (notice_call s a).1 b ≡ notice_by (opened s) (notice_by (opened s) s a).1 b
second s a b = ap (λ (o : Option Geometry). notice_by o (notice_call s a).1 b) (notice-opened s a)

module _ (s : List ℕ) (a b : ℕ) where
  -- in either order the same store, and the same sums
  pub notice_swap : (notice_call (notice_call s a).1 b).1 ≡ (notice_call (notice_call s b).1 a).1
  notice_swap =
      rw (second s a b, second s b a)
      (on_any_bytes s (λ o. (notice_by o (notice_by o s a).1 b).1 ≡ (notice_by o (notice_by o s b).1 a).1) (λ g f. noticed_comm g s f a b) refl)

  pub notice_swap_sum : summed (reported (notice_call s a).0) (reported (notice_call (notice_call s a).1 b).0) ≡ summed (reported (notice_call s b).0) (reported (notice_call (notice_call s b).1 a).0)
  notice_swap_sum =
      rw (second s a b, second s b a)
      (on_any_bytes s (λ o. summed (reported (notice_by o s a).0) (reported (notice_by o (notice_by o s a).1 b).0) ≡ summed (reported (notice_by o s b).0) (reported (notice_by o (notice_by o s b).1 a).0))
      (λ g f. report_comm g s f a b) refl)

  -- a second notice in the same page changes nothing, and counts 0 and 0
  module _ (same : a / 4096 ≡ b / 4096) where
    pub notice_again : (notice_call (notice_call s a).1 b).1 ≡ (notice_call s a).1
    notice_again = rw (second s a b) (on_any_bytes s (λ o. (notice_by o (notice_by o s a).1 b).1 ≡ (notice_by o s a).1) (λ g f. noticed_again g s f a b same) refl)

    pub notice_again_none : reported (notice_call (notice_call s a).1 b).0 ≡ nothing_done
    notice_again_none = rw (second s a b) (on_any_bytes s (λ o. reported (notice_by o (notice_by o s a).1 b).0 ≡ nothing_done) (λ g f. report_again g s f a b same) refl)

-- two flushes are one: the answer and every byte
pub flush-opened : (s : List ℕ) → opened (flush_call s).1 ≡ opened s
flush-opened s = on_any_bytes s (λ o. opened (flush_by o s).1 ≡ opened s) (λ g f. opened-flushed g s f) refl

pub flush_twice : (s : List ℕ) → flush_call (flush_call s).1 ≡ flush_call s
flush_twice s =
    rw (flush-opened s)
    (on_any_bytes s (λ o. flush_by o (flush_by o s).1 ≡ flush_by o s)
    (λ g f. ap (λ (head : List ℕ). (done, head ++ blank g)) (take_at (take 32 s) (blank g) 32 (length-take-le 32 s (let w = front_fits g s f in omega arith)))) refl)
