-- Never stale: where each accepted insertion held the block formed from the bytes then present, every hit is the block formed from the bytes present now.
-- Assumes nothing.
use mathlib.Core.Path.{◌≡◌, refl, sym, ap, subst, ◌∙◌}
use mathlib.Core.Bool.{Bool, true, false, cond}
use mathlib.Core.List.{List, [], ◌∷◌, ◌++◌}
use mathlib.Core.Option.{none, some}
use Prim.Native.Nat.{ℕ, ◌+◌, ◌-◌, ◌*◌, ◌/◌, ◌%◌, ◌≤◌, ◌<◌}
use native.Mathlib.Omega.{arith}
use native.Mathlib.Decide.{dec_lt}
use lib.Dec.{eqb}
use lib.ListN.{length, get_or}
use borrow.Author.Tests.{eqb-true, eqb-false}
use Rattle.bits.specs.Bytes.{le, patch}
use Rattle.bits.proofs.Bytes.{length-le, length-patch, get_or-before, get_or-behind}
use Rattle.bits.proofs.Every.{decide}
use Rattle.block.specs.Memory.{page_bytes}
use Rattle.form.proofs.Page.{by_bytes}
use Rattle.store.specs.Layout.{holds, slot_of, Bounded}
use Rattle.store.specs.Places.{record_in}
use Rattle.store.specs.declared.Geometry.{Geometry}
use Rattle.store.proofs.Known.{holds_are}
use Rattle.cache.specs.Calls.{make_judged, lookup_call}
use Rattle.cache.proofs.Checks.{opened-fits}
use Rattle.write.specs.Write.{write_judged, write_call}
use Rattle.write.proofs.Granted.{Granted}
use Rattle.history.specs.History.{Event, inserted, touched, flushed, Every, none_left, and_then, OfInserted, shown}
use Rattle.history.proofs.Sentences.{no_some, shown_was}
use Rattle.guarantee.specs.Calls.{Use, lookup, insert, notice, notices, flush, generation, write, Call, make, uses, Lent, done, run, looked_up}
use Rattle.guarantee.specs.Past.{Past, unmade, since, page_of, if_accepted, crossed, events, grown, past, past_of}
use Rattle.guarantee.specs.Stands.{Possible, Stands, Follows}
use Rattle.guarantee.specs.Honest.{Former, Local, Fresh, Honest}
use Rattle.guarantee.proofs.Simulation.{fits-accepted}
use Rattle.guarantee.proofs.Run.{write_own, kept}
use Rattle.guarantee.proofs.Guarantee.{hit_shown}
use Rattle.answer.specs.Answer.{Answer, answer_number}
use Rattle.std.specs.Prelude.{Some, Ok, Err}

in_order : (x y : ℕ) → x ≤ y → x / 4096 ≤ y / 4096
in_order x y h = omega arith

next_page : (x n : ℕ) → n ≤ 8 → (x + n - 1) / 4096 ≤ x / 4096 + 1
next_page x n h = omega arith

between : (x p y : ℕ) → x ≤ p → p ≤ y → y ≤ x + 1 → (x ≡ p → ⊥) → (y ≡ p → ⊥) → ⊥
between x p y l u n d e = decide x p d (λ q. e (omega arith))

-- a byte of another page lies before the written ones or behind them
behind : (base at n a i : ℕ) → base % 4096 ≡ 0 → base ≤ at → base ≤ a → 1 ≤ n → n ≤ 8 → (at / 4096 ≡ a / 4096 → ⊥) → ((at + n - 1) / 4096 ≡ a / 4096 → ⊥) → i / 4096 ≡ (a - base) / 4096 → at - base ≤ i → at - base + n ≤ i
behind base at n a i aligned low held least most first last e c =
    let there : (base + i) / 4096 ≡ a / 4096 = omega arith in
    go (dec_lt i (at - base + n)) there
  where
    go : Dec (i < at - base + n) → (base + i) / 4096 ≡ a / 4096 → at - base + n ≤ i
    go (no d) there = omega arith
    go (yes d) there =
        absurd (between (at / 4096) (a / 4096) ((at + n - 1) / 4096)
        (subst (λ (p : ℕ). at / 4096 ≤ p) there (in_order at (base + i) (omega arith)))
        (subst (λ (p : ℕ). p ≤ (at + n - 1) / 4096) there (in_order (base + i) (at + n - 1) (omega arith)))
        (next_page at n most) first last)

-- a write leaves the pages that it doesn't touch
module _ (s m : List ℕ) (at n v : ℕ) (g : Geometry) (t : Granted s (length m) at n g) (b : Bounded g) where
  room : at - g.base + length (le n v) ≤ length m
  room = omega (arith, length-le n v, t.low, t.high, t.whole)

  untouched : (a : ℕ) → holds g a ≡ true → (page_of at ≡ page_of a → ⊥) → (page_of (at + n - 1) ≡ page_of a → ⊥) → page_bytes m g.base a ≡ page_bytes (patch m (at - g.base) (le n v)) g.base a
  untouched a able first last = by_bytes m (patch m (at - g.base) (le n v)) g.base a (sym (length-patch m (at - g.base) (le n v) room)) (λ i e. sym (go i e (dec_lt i (at - g.base))))
    where
      in_memory : (g.base ≤ a) × (a < g.base + 4096 * g.pages)
      in_memory = holds_are g a able

      go : (i : ℕ) → i / 4096 ≡ (a - g.base) / 4096 → Dec (i < at - g.base) → get_or (patch m (at - g.base) (le n v)) i 0 ≡ get_or m i 0
      go i e (yes c) = get_or-before m (at - g.base) (le n v) room i c
      go i e (no c) = get_or-behind m (at - g.base) (le n v) room i (rw (length-le n v) (behind g.base at n a i b.aligned t.low in_memory.0 t.some t.few first last e (omega arith)))

-- what is shown after a touch lies in another page
touch_apart : (g : Geometry) (h : List Event) (p a : ℕ) (r : List ℕ) → shown (slot_of g) page_of (touched p ∷ h) a ≡ some r → (p ≡ page_of a → ⊥) × (shown (slot_of g) page_of h a ≡ some r)
unfolding shown
touch_apart g h p a r = go (eqb p (page_of a)) refl
  where
    go : (t : Bool) → eqb p (page_of a) ≡ t → cond t none (shown (slot_of g) page_of h a) ≡ some r → (p ≡ page_of a → ⊥) × (shown (slot_of g) page_of h a ≡ some r)
    go true q k = no_some r k
    go false q k = (eqb-false p (page_of a) q, k)

-- and after a write in neither of its pages
cross_apart : (g : Geometry) (h : List Event) (x y a : ℕ) (r : List ℕ) → shown (slot_of g) page_of (crossed x y ++ h) a ≡ some r → (page_of x ≡ page_of a → ⊥) × (page_of y ≡ page_of a → ⊥) × (shown (slot_of g) page_of h a ≡ some r)
cross_apart g h x y a r k = go (eqb (page_of x) (page_of y)) refl
  where
    go : (t : Bool) → eqb (page_of x) (page_of y) ≡ t → (page_of x ≡ page_of a → ⊥) × (page_of y ≡ page_of a → ⊥) × (shown (slot_of g) page_of h a ≡ some r)
    go true q = let w = touch_apart g h (page_of x) a r (rw q at k) in (w.0, λ e. w.0 (eqb-true (page_of x) (page_of y) q ∙ e), w.1)
    go false q =
        let w = touch_apart g (touched (page_of x) ∷ h) (page_of y) a r (rw q at k) in
        let z = touch_apart g h (page_of x) a r w.1 in
        (z.0, w.0, z.1)

module _ (form : Former) where
  abbrev Held : Geometry → List ℕ → Event → Type 0
  Held g m = OfInserted (λ a r. form g m a ≡ (Ok tt, r))

  -- events whose insertions held what forms from this memory
  events_fresh : (g : Geometry) (h : List Event) (m : List ℕ) → Fresh form (since g h) m → (new : List Event) → Every (Held g m) new → Fresh form (since g (new ++ h)) m
  unfolding shown
  events_fresh g h m i [] none_left a r e = i a r e
  events_fresh g h m i (inserted b rec ∷ new) (and_then f l) a r e = go (events_fresh g h m i new l a r) (eqb b a) refl (eqb (slot_of g b) (slot_of g a)) e
    where
      go : (shown (slot_of g) page_of (new ++ h) a ≡ some r → form g m a ≡ (Ok tt, r)) → (t : Bool) → eqb b a ≡ t → (u : Bool) → cond t (some rec) (cond u none (shown (slot_of g) page_of (new ++ h) a)) ≡ some r → form g m a ≡ (Ok tt, r)
      go ih true q u k =
          let same : rec ≡ r = cc in
          ap (form g m) (sym (eqb-true b a q)) ∙ f ∙ ap (λ (x : List ℕ). (Ok tt, x)) same
      go ih false q true k = no_some r k
      go ih false q false k = ih k
  events_fresh g h m i (touched p ∷ new) (and_then f l) a r e = events_fresh g h m i new l a r (touch_apart g (new ++ h) p a r e).1
  events_fresh g h m i (flushed ∷ new) (and_then f l) a r e = no_some r e

  module _ (local : Local form) where
    write_still : (g : Geometry) (h : List Event) (s m : List ℕ) → Stands g h s → (at n v : ℕ) → Fresh form (since g (events (length m) g (write at n v) ++ h)) m → Fresh form (since g (events (length m) g (write at n v) ++ h)) (write_call s m at n v).2
    unfolding events
    write_still g h s m y at n v i = go (write_judged (Some g) (length m) at n) refl
      where
        accepted : Granted s (length m) at n g → Fresh form (since g (crossed at (at + n - 1) ++ h)) m → Fresh form (since g (crossed at (at + n - 1) ++ h)) (patch m (at - g.base) (le n v))
        accepted t i a r q =
            let w = cross_apart g h at (at + n - 1) a r q in
            let able = (fits-accepted g s y.sound a r (shown_was (slot_of g) page_of (Possible g) h y.accepted a r w.2)).able in
            let b = (opened-fits s g y.sound).bounds in
            sym (local g m (patch m (at - g.base) (le n v)) a (sym (length-patch m (at - g.base) (le n v) (room s m at n v g t b))) (untouched s m at n v g t b a able w.0 w.1))
            ∙ i a r q

        go : (j : Answer Geometry) → write_judged (Some g) (length m) at n ≡ j → Fresh form (since g (events (length m) g (write at n v) ++ h)) (write_call s m at n v).2
        go (Ok k) e = let own = write_own g h s y (length m) at n k e in rw (y.sound, own.0) (accepted own.1 (rw own.0 at i))
        go (Err why) e = rw (y.sound, e) (rw e at i)

    -- a call leaves the memory that what is shown forms from
    still : (g : Geometry) (h : List Event) (l : Lent) → Stands g h l.store → (c : Use) → Fresh form (since g (events (length l.memory) g c ++ h)) l.memory → Fresh form (since g (events (length l.memory) g c ++ h)) (done c l).1.memory
    unfolding done events
    still g h l y (lookup a) i = i
    still g h l y (insert a rec) i = i
    still g h l y (notice a) i = i
    still g h l y (notices list) i = i
    still g h l y flush i = i
    still g h l y generation i = i
    still g h l y (write a n v) i = write_still g h l.store l.memory y a n v i

    module _ (p : Past) (l : Lent) (start : Follows p l.store) (first : Fresh form p l.memory) where
      -- what the past shows is what forms now
      pub fresh : (calls : List Call) → Honest form p calls l → Fresh form (past_of p calls l) (run calls l).memory
      unfolding past run Honest shown
      fresh [] o = first
      fresh (make reading e base pages ∷ calls) o = go (make_judged reading e base pages (length l.store)) (past_of p calls l) (fresh calls o)
        where
          go : (j : Answer Geometry) (z : Past) → Fresh form z (run calls l).memory → Fresh form (if_accepted j (λ g. since g []) z) (run calls l).memory
          go (Ok g) z i = λ a r e. no_some r e
          go (Err why) z i = i
      fresh (uses c ∷ calls) o = go (past_of p calls l) refl (kept p l start calls).follows (fresh calls o.1)
        where
          go : (z : Past) → past_of p calls l ≡ z → Follows z (run calls l).store → Fresh form z (run calls l).memory → Fresh form (grown (length l.memory) c z) (done c (run calls l)).1.memory
          go unmade e y i = tt
          go (since g h) e y i =
              subst (λ (n : ℕ). Every (Held g (run calls l).memory) (events n g c) → Fresh form (since g (events n g c ++ h)) (done c (run calls l)).1.memory)
              (kept p l start calls).roomy
              (λ f. still g h (run calls l) y c (events_fresh g h (run calls l).memory i (events (length (run calls l).memory) g c) f))
              (o.0 g h e)

      -- where a lookup's number is 0, what forms now is the record that the returned part shows
      pub never_stale : (calls : List Call) → Honest form p calls l → (g : Geometry) (h : List Event) → past_of p calls l ≡ since g h
          → (a : ℕ) → answer_number (lookup_call (run calls l).store a) ≡ 0 → form g (run calls l).memory a ≡ (Ok tt, record_in g (looked_up (run calls l) a))
      never_stale calls o g h is a e = subst (λ (z : Past). Fresh form z (run calls l).memory) is (fresh calls o) a _ (hit_shown p l start calls g h is a e)
