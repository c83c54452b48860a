-- A store that stands for a past keeps doing so: what each event does to a store is what it adds to the past.
-- Assumes nothing.
use mathlib.Core.Path.{◌≡◌, refl, sym, ap, ap₂, subst, ◌∙◌}
use mathlib.Core.Bool.{Bool, true, false, cond, ◌&&◌, ◌||◌, not}
use mathlib.Core.List.{List, [], ◌∷◌, ◌++◌, append_assoc}
use mathlib.Core.Option.{none}
use Prim.Native.Nat.{ℕ, suc, ◌+◌, ◌-◌, ◌*◌, ◌/◌, ◌%◌, ◌^◌, ◌≤◌, ◌<◌}
use native.Mathlib.Omega.{arith}
use native.Mathlib.Nat.{mod-add-mod}
use lib.Dec.{eqb}
use lib.ListN.{length, take}
use borrow.Author.Tests.{eqb-false, eq-eqb, ne_eqb}
use Rattle.bits.specs.Bytes.{doubleword_at}
use Rattle.bits.proofs.Count.{count_same}
use Rattle.bits.proofs.Every.{decide}
use Rattle.bits.proofs.Tests.{and_both, true_false}
use Rattle.store.specs.Layout.{header, in_bounds, geometry, opened, holds, slot_of, generation_of, Bounded, Fitting}
use Rattle.store.specs.Places.{place_in, page_bit, empty_place, place_for, record_in, in_page, emptied, blank}
use Rattle.store.specs.declared.Geometry.{Geometry}
use Rattle.store.proofs.Known.{holds_are, are_held, page-lt, slot_lt}
use Rattle.store.proofs.Held.{place_long, place_named, record_back}
use Rattle.store.proofs.Places.{length_empty, empty_address}
use Rattle.store.proofs.View.{opened-flushed, generation-flushed, bits-flushed, place_flushed, opened_made, generation_made, bits_made, place_made}
use Rattle.cache.specs.Calls.{insert_judged, watched, evicted, noticed_in, dropped_in, report_in, summed, inserted_in}
use Rattle.cache.proofs.Checks.{opened-fits, insert_taken}
use Rattle.cache.proofs.Reports.{same_report, summed-none, none-summed, summed_assoc}
use Rattle.cache.proofs.View.{opened-evicted, generation-evicted, bits-evicted, place_evicted, opened-inserted, generation-inserted, bits-inserted, place_inserted, report_apart}
use Rattle.notices.specs.Notices.{noticed_all, report_all}
use Rattle.write.specs.Write.{noticed_pages, report_pages}
use Rattle.history.specs.History.{Event, inserted, touched, flushed, Every, none_left, and_then, insertions, shown, marked}
use Rattle.history.proofs.Sentences.{no_some}
use Rattle.history.proofs.Places.{Place, empty, full, swept, places, Was, was, full_shown, shown_full, empty_none}
use Rattle.history.proofs.Dropped.{place_in_page, places_hits, unmarked_none}
use Rattle.guarantee.specs.Past.{page_of, crossed, touches}
use Rattle.guarantee.specs.Stands.{Possible, Stands}
use Rattle.guarantee.specs.Answers.{live, report, reports}
use Rattle.std.specs.Prelude.{Option, Some, Ok}

-- an accepted insertion: its address lies in memory, and what the place holds for the record is as long as a place, names the address and shows the record
pub record Fits (g : Geometry) (a : ℕ) (r : List ℕ) : Type 0 where
  pub able : holds g a ≡ true
  pub long : length (place_for g r) ≡ g.stride
  pub named : doubleword_at (place_for g r) 0 ≡ a
  pub back : record_in g (place_for g r) ≡ r

pub fits-accepted : (g : Geometry) (s : List ℕ) → opened s ≡ Some g → (a : ℕ) (r : List ℕ) → insert_judged (Some g) a r ≡ Ok g → Fits g a r
fits-accepted g s o a r e =
    let t = insert_taken s a r g (ap (λ (z : Option Geometry). insert_judged z a r) o ∙ e) in
    record { able = t.inner; long = place_long g r s o t.whole; named = place_named g r a t.formed; back = record_back g r a t.formed }

-- the bytes of a place
abbrev pub bytes_of : Geometry → Place → List ℕ
bytes_of g empty = empty_place g.stride
bytes_of g (full a r) = place_for g r

-- the places of a store that stands for a past, by slots
module _ (g : Geometry) (h : List Event) (s : List ℕ) where
  pub place_is : Stands g h s → (i : ℕ) → i < 2 ^ g.e → place_in g s i ≡ bytes_of g (places (slot_of g) page_of h i)
  place_is y i c = go (places (slot_of g) page_of h i) refl
    where
      go : (k : Place) → places (slot_of g) page_of h i ≡ k → place_in g s i ≡ bytes_of g k
      go empty e = y.vacant i c (λ a q. empty_none (slot_of g) page_of h i a e q)
      go (full a r) e = let w = full_shown (slot_of g) page_of h i a r e in subst (λ (j : ℕ). place_in g s j ≡ place_for g r) w.0 (y.full a r w.1)

  pub standing : opened s ≡ Some g → generation_of s ≡ (insertions h + 1) % 2 ^ 64 → ((i : ℕ) → i < 2 ^ g.e → place_in g s i ≡ bytes_of g (places (slot_of g) page_of h i)) → ((q : ℕ) → q < g.pages → page_bit s q ≡ marked (slot_of g) page_of h (page_of g.base + q)) → Every (Possible g) h → Stands g h s
  standing o age place bits accepted = record {
    sound = o;
    age = age;
    full = λ a r e. place (slot_of g a) (slot_lt g a) ∙ ap (bytes_of g) (shown_full (slot_of g) page_of h a r e);
    vacant = λ i c n. place i c ∙ ap (bytes_of g) (none_there i n (places (slot_of g) page_of h i) refl);
    bits = bits;
    accepted = accepted;
  }
    where
      none_there : (i : ℕ) → ((a : ℕ) → slot_of g a ≡ i → shown (slot_of g) page_of h a ≡ none) → (k : Place) → places (slot_of g) page_of h i ≡ k → k ≡ empty
      none_there i n empty e = refl
      none_there i n (full a r) e = let w = full_shown (slot_of g) page_of h i a r e in no_some r (sym (n a w.0) ∙ w.1)

-- pages counted from address 0 and from the base
page_shift : (g : Geometry) (a : ℕ) → Bounded g → holds g a ≡ true → page_of a ≡ page_of g.base + (a - g.base) / 4096
page_shift g a b h = omega (arith, holds_are g a h, b.aligned)

same_test : (g : Geometry) (a q : ℕ) → Bounded g → holds g a ≡ true → eqb ((a - g.base) / 4096) q ≡ eqb (page_of a) (page_of g.base + q)
same_test g a q b h =
    decide ((a - g.base) / 4096) q
    (λ e. eq-eqb ((a - g.base) / 4096) q e ∙ sym (eq-eqb (page_of a) (page_of g.base + q) (page_shift g a b h ∙ ap (λ (k : ℕ). page_of g.base + k) e)))
    (λ n. ne_eqb ((a - g.base) / 4096) q n ∙ sym (ne_eqb (page_of a) (page_of g.base + q) (λ e. n (omega (arith, page_shift g a b h)))))

-- the addresses of a page
abbrev pub first_of : ℕ → ℕ
first_of p = 4096 * p

pub in_page_lem : (p k : ℕ) → k < 4096 → page_of (first_of p + k) ≡ p
in_page_lem p k l = omega arith

pub its_page : (a : ℕ) → (first_of (page_of a) ≤ a) × (a < first_of (page_of a) + 4096)
its_page a = (omega arith, omega arith)

-- a scan of a place's bytes is a scan of the place
abbrev pub Fitted : Geometry → Place → Type 0
Fitted g empty = Unit {0}
Fitted g (full a r) = Fits g a r

scanned : (g : Geometry) (p : ℕ) (k : Place) → Bounded g → Fitted g k → emptied p (bytes_of g k) ≡ bytes_of g (swept (slot_of g) page_of p k)
unfolding emptied
scanned g p empty b w = go (eqb (doubleword_at (empty_place g.stride) 0 / 4096) p)
  where
    go : (t : Bool) → cond t (empty_place (length (empty_place g.stride))) (empty_place g.stride) ≡ empty_place g.stride
    go true = ap empty_place (length_empty g.stride (omega (arith, b.room)))
    go false = refl
scanned g p (full a r) b w = rw (w.named, w.long) (go (eqb (a / 4096) p))
  where
    go : (t : Bool) → cond t (empty_place g.stride) (place_for g r) ≡ bytes_of g (cond t empty (full a r))
    go true = refl
    go false = refl

module _ (g : Geometry) (h : List Event) (s : List ℕ) (y : Stands g h s) where
  fits : Fitting g s
  fits = opened-fits s g y.sound

  -- what a place holds was accepted
  pub fitted : (i : ℕ) → Fitted g (places (slot_of g) page_of h i)
  fitted i = go (places (slot_of g) page_of h i) (was (slot_of g) page_of (Possible g) h y.accepted i)
    where
      go : (k : Place) → Was (slot_of g) page_of (Possible g) k → Fitted g k
      go empty w = tt
      go (full a r) w = fits-accepted g s y.sound a r w

  pub flush_keeps : Stands g (flushed ∷ h) (take 32 s ++ blank g)
  unfolding marked places insertions
  flush_keeps =
      standing g (flushed ∷ h) (take 32 s ++ blank g) (opened-flushed g s fits ∙ y.sound) (generation-flushed g s fits ∙ y.age)
      (λ i c. place_flushed g s fits i c)
      (λ q c. bits-flushed g s fits q c)
      (and_then tt y.accepted)

  pub insert_keeps : (a : ℕ) (r : List ℕ) → insert_judged (Some g) a r ≡ Ok g → Stands g (inserted a r ∷ h) (inserted_in g s a r)
  unfolding marked places insertions
  insert_keeps a r e =
      let f = fits-accepted g s y.sound a r e in
      standing g (inserted a r ∷ h) (inserted_in g s a r) (opened-inserted g s fits a f.able r f.long ∙ y.sound)
      (generation-inserted g s fits a f.able r f.long ∙ ap (λ (n : ℕ). (n + 1) % 2 ^ 64) y.age ∙ mod-add-mod (insertions h + 1) (2 ^ 64) 1 ∙ ap (λ (n : ℕ). n % 2 ^ 64) one_more)
      (λ i c. place_inserted g s fits a f.able r f.long i ∙ one (places (slot_of g) page_of h i) (place_in g s i) (eqb (slot_of g a) i) (place_is g h s y i c))
      (λ q c. bits-inserted g s fits a f.able r f.long q c ∙ rw (same_test g a q fits.bounds f.able) (bit (eqb (page_of a) (page_of g.base + q)) _ _ (y.bits q c)))
      (and_then e y.accepted)
    where
      one_more : insertions h + 1 + 1 ≡ suc (insertions h) + 1
      one_more = omega arith

      one : (k : Place) (x : List ℕ) (t : Bool) → x ≡ bytes_of g k → cond t (place_for g r) x ≡ bytes_of g (cond t (full a r) k)
      one k x true e = refl
      one k x false e = e

      bit : (t u v : Bool) → u ≡ v → cond t true u ≡ (t || v)
      bit true u v e = refl
      bit false u v e = e

  -- a page is watched exactly when the past has it marked
  outside : (a : ℕ) → holds g a ≡ false → (k : List Event) → Every (Possible g) k → marked (slot_of g) page_of k (page_of a) ≡ false
  unfolding marked
  outside a o [] none_left = refl
  outside a o (inserted b r ∷ k) (and_then e l) = rw (ne_eqb (page_of b) (page_of a) apart) (outside a o k l)
    where
      inside : (g.base ≤ b) × (b < g.base + 4096 * g.pages)
      inside = holds_are g b (fits-accepted g s y.sound b r e).able

      apart : page_of b ≡ page_of a → ⊥
      apart q = true_false (are_held g a (omega (arith, inside, fits.bounds.aligned)) (omega (arith, inside, fits.bounds.aligned))) o
  outside a o (touched p ∷ k) (and_then e l) = rw (outside a o k l) (nothing (not (eqb p (page_of a))))
    where
      nothing : (t : Bool) → (t && false) ≡ false
      nothing true = refl
      nothing false = refl
  outside a o (flushed ∷ k) (and_then e l) = refl

  watched-marked : (a : ℕ) → watched g s a ≡ marked (slot_of g) page_of h (page_of a)
  watched-marked a = go (holds g a) refl
    where
      go : (t : Bool) → holds g a ≡ t → (t && page_bit s ((a - g.base) / 4096)) ≡ marked (slot_of g) page_of h (page_of a)
      go true e = y.bits ((a - g.base) / 4096) (page-lt g a e) ∙ ap (marked (slot_of g) page_of h) (sym (page_shift g a fits.bounds e))
      go false e = sym (outside a e h y.accepted)

  -- a notice
  module _ (a : ℕ) where
    swept_places : marked (slot_of g) page_of h (page_of a) ≡ true → holds g a ≡ true → Stands g (touched (page_of a) ∷ h) (evicted g s a)
    unfolding marked places insertions
    swept_places m o =
        standing g (touched (page_of a) ∷ h) (evicted g s a) (opened-evicted g s fits a o ∙ y.sound) (generation-evicted g s fits a o ∙ y.age)
        (λ i c. place_evicted g s fits a o i c ∙ ap (emptied (a / 4096)) (place_is g h s y i c) ∙ rw m (scanned g (page_of a) (places (slot_of g) page_of h i) fits.bounds (fitted i)))
        (λ q c. bits-evicted g s fits a o q c ∙ rw (same_test g a q fits.bounds o) (bit (eqb (page_of a) (page_of g.base + q)) _ _ (y.bits q c)))
        (and_then tt y.accepted)
      where
        bit : (t u v : Bool) → u ≡ v → cond t false u ≡ (not t && v)
        bit true u v e = refl
        bit false u v e = e

    unwatched : marked (slot_of g) page_of h (page_of a) ≡ false → Stands g (touched (page_of a) ∷ h) s
    unfolding marked places insertions
    unwatched m =
        standing g (touched (page_of a) ∷ h) s y.sound y.age
        (λ i c. rw m (place_is g h s y i c))
        (λ q c. y.bits q c ∙ bit (page_of g.base + q))
        (and_then tt y.accepted)
      where
        bit : (q : ℕ) → marked (slot_of g) page_of h q ≡ (not (eqb (page_of a) q) && marked (slot_of g) page_of h q)
        bit q = decide (page_of a) q (λ e. rw (eq-eqb (page_of a) q e) (ap (marked (slot_of g) page_of h) (sym e) ∙ m)) (λ n. rw (ne_eqb (page_of a) q n))

    -- the places that a store counts for a page are the addresses of the page that the past shows
    counted : holds g a ≡ true → dropped_in g s a ≡ live g h (page_of a)
    counted o =
        count_same (2 ^ g.e) _ _ (λ i c. ap (in_page (page_of a)) (place_is g h s y i c) ∙ there (places (slot_of g) page_of h i) (fitted i))
        ∙ places_hits (slot_of g) page_of (2 ^ g.e) (slot_lt g) first_of 4096 in_page_lem its_page h (page_of a)
      where
        there : (k : Place) → Fitted g k → in_page (page_of a) (bytes_of g k) ≡ place_in_page (slot_of g) page_of (page_of a) k
        there empty w = rw (empty_address g.stride) (ne_eqb (0xFFFF_FFFF_FFFF_FFFF / 4096) (page_of a) (λ e. omega (arith, holds_are g a o, fits.bounds.below)))
        there (full b r) w = rw w.named

    pub unmarked_drops : marked (slot_of g) page_of h (page_of a) ≡ false → live g h (page_of a) ≡ 0
    unmarked_drops = unmarked_none (slot_of g) page_of (2 ^ g.e) (slot_lt g) first_of 4096 in_page_lem its_page h (page_of a)

    pub notice-reports : report_in g s a ≡ report g h (page_of a)
    notice-reports = go (watched g s a) refl
      where
        go : (t : Bool) → watched g s a ≡ t → report_in g s a ≡ report g h (page_of a)
        go true e = rw (e, sym (watched-marked a) ∙ e) (same_report refl (counted (and_both (holds g a) _ e).0))
        go false e = let m = sym (watched-marked a) ∙ e in rw (e, m) (same_report refl (sym (unmarked_drops m)))

    pub touch_reports : report_in g s a ≡ reports g h (touched (page_of a) ∷ [])
    unfolding reports
    touch_reports = notice-reports ∙ sym (summed-none (report g h (page_of a)))

    pub notice_keeps : Stands g (touched (page_of a) ∷ h) (noticed_in g s a)
    notice_keeps = go (watched g s a) refl
      where
        go : (t : Bool) → watched g s a ≡ t → Stands g (touched (page_of a) ∷ h) (noticed_in g s a)
        go true e = rw e (swept_places (sym (watched-marked a) ∙ e) (and_both (holds g a) _ e).0)
        go false e = rw e (unwatched (sym (watched-marked a) ∙ e))

-- what two lists of events report, one behind the other
reports-append : (g : Geometry) (h old new : List Event) → reports g h (new ++ old) ≡ summed (reports g h old) (reports g (old ++ h) new)
unfolding reports
reports-append g h old [] = sym (none-summed (reports g h old))
reports-append g h old (inserted a r ∷ new) = reports-append g h old new
reports-append g h old (touched p ∷ new) =
    ap₂ (λ r k. summed r (report g k p)) (reports-append g h old new) (append_assoc new old h)
    ∙ summed_assoc (reports g h old) (reports g (old ++ h) new) (report g (new ++ (old ++ h)) p)
reports-append g h old (flushed ∷ new) = reports-append g h old new

-- the notices of a list
pub notices-reports : (g : Geometry) (h : List Event) (s : List ℕ) → Stands g h s → (list : List ℕ) → report_all g s list ≡ reports g h (touches list)
unfolding report_all touches reports
notices-reports g h s y [] = refl
notices-reports g h s y (a ∷ rest) =
    ap₂ summed (touch_reports g h s y a) (notices-reports g (touched (page_of a) ∷ h) (noticed_in g s a) (notice_keeps g h s y a) rest)
    ∙ sym (reports-append g h (touched (page_of a) ∷ []) (touches rest))

pub notices_keeps : (g : Geometry) (h : List Event) (s : List ℕ) → Stands g h s → (list : List ℕ) → Stands g (touches list ++ h) (noticed_all g s list)
unfolding noticed_all touches
notices_keeps g h s y [] = y
notices_keeps g h s y (a ∷ rest) = rw append_assoc (notices_keeps g (touched (page_of a) ∷ h) (noticed_in g s a) (notice_keeps g h s y a) rest)

-- the notices of a write from a to b
module _ (g : Geometry) (h : List Event) (s : List ℕ) (y : Stands g h s) (a b : ℕ) where
  second : Stands g (touched (page_of a) ∷ h) (noticed_in g s a)
  second = notice_keeps g h s y a

  pub write-reports : report_pages g s a b ≡ reports g h (crossed a b)
  unfolding reports
  write-reports = go (eqb (page_of a) (page_of b)) refl
    where
      -- the first page's notice leaves the second's report
      last : eqb (page_of a) (page_of b) ≡ false → report_in g s b ≡ report g (touched (page_of a) ∷ h) (page_of b)
      last e = sym (report_apart g s (fits g h s y) a b (eqb-false (page_of a) (page_of b) e)) ∙ notice-reports g (touched (page_of a) ∷ h) (noticed_in g s a) second b

      go : (t : Bool) → eqb (page_of a) (page_of b) ≡ t → report_pages g s a b ≡ reports g h (crossed a b)
      go true e = rw e (touch_reports g h s y a)
      go false e = rw e (ap₂ summed (touch_reports g h s y a) (last e))

  pub write_keeps : Stands g (crossed a b ++ h) (noticed_pages g s a b)
  write_keeps = go (eqb (page_of a) (page_of b)) refl
    where
      go : (t : Bool) → eqb (page_of a) (page_of b) ≡ t → Stands g (crossed a b ++ h) (noticed_pages g s a b)
      go true e = rw e second
      go false e = rw e (notice_keeps g (touched (page_of a) ∷ h) (noticed_in g s a) second b)

-- a new store
pub make_keeps : (reading e base pages : ℕ) → in_bounds reading e base pages ≡ true → Stands (geometry reading e base pages) [] (header (geometry reading e base pages) 1 ++ blank (geometry reading e base pages))
unfolding marked places insertions
make_keeps reading e base pages w =
    standing (geometry reading e base pages) [] (header (geometry reading e base pages) 1 ++ blank (geometry reading e base pages)) (opened_made reading e base pages w) (generation_made reading e base pages w)
    (λ i c. place_made reading e base pages w i c)
    (λ q c. bits_made reading e base pages w q c)
    none_left
