-- After any calls, on a store that stands for a past at first, both buffers have their length, and the store stands for the past that the calls tell.
-- Assumes nothing.
use mathlib.Core.Path.{◌≡◌, refl, sym, ap, subst, ◌∙◌}
use mathlib.Core.Bool.{Bool, true, false}
use mathlib.Core.List.{List, [], ◌∷◌, ◌++◌}
use Prim.Native.Nat.{ℕ, ◌+◌, ◌-◌}
use native.Mathlib.Omega.{arith}
use lib.Dec.{eqb}
use lib.ListN.{length}
use borrow.Author.Tests.{eqb-true}
use Rattle.bits.specs.Bytes.{le, patch}
use Rattle.bits.proofs.Bytes.{length-le, length-patch}
use Rattle.store.specs.Layout.{header, in_bounds, store_len, geometry, opened, Fitting}
use Rattle.store.specs.declared.Geometry.{Geometry}
use Rattle.store.proofs.Known.{bounds_are}
use Rattle.store.proofs.Held.{place_long}
use Rattle.store.proofs.View.{fitting_blank, fitting_flushed, header_long}
use Rattle.cache.specs.Calls.{make_call, insert_judged, inserted_in, insert_by, insert_call, noticed_in, notice_by, notice_call, flush_by, flush_call}
use Rattle.cache.proofs.Checks.{opened-fits, Taken, insert_taken}
use Rattle.cache.proofs.View.{fitting_inserted, fitting_noticed}
use Rattle.cache.proofs.Order.{on_any_bytes}
use Rattle.notices.specs.Notices.{notices_by, notices_call}
use Rattle.notices.proofs.Sums.{fitting_all}
use Rattle.write.specs.Write.{write_judged, noticed_pages, write_by, write_call}
use Rattle.write.proofs.Granted.{Granted, write_granted}
use Rattle.history.specs.History.{Event}
use Rattle.guarantee.specs.Calls.{Use, lookup, insert, notice, notices, flush, generation, write, Call, make, uses, Lent, storing, done, run}
use Rattle.guarantee.specs.Past.{Past, unmade, since, page_of, events, grown, past, past_of}
use Rattle.guarantee.specs.Stands.{Stands, Follows}
use Rattle.guarantee.proofs.Simulation.{make_keeps, flush_keeps, insert_keeps, notice_keeps, notices_keeps, write_keeps}
use Rattle.answer.specs.Answer.{Answer}
use Rattle.std.specs.Prelude.{Option, Some, Ok, Err}

-- no call changes the length of a buffer
length-insert : (s : List ℕ) (a : ℕ) (rec : List ℕ) → length (insert_call s a rec).1 ≡ length s
length-insert s a rec = go (insert_judged (opened s) a rec) refl
  where
    accepted : (g : Geometry) → Taken s a rec g → length (inserted_in g s a rec) ≡ length s
    accepted g t = let f = opened-fits s g t.sound in (fitting_inserted g s f a t.inner rec (place_long g rec s t.sound t.whole)).exact ∙ sym f.exact

    go : (j : Answer Geometry) → insert_judged (opened s) a rec ≡ j → length (insert_by j s a rec).1 ≡ length s
    go (Ok g) e = accepted g (insert_taken s a rec g e)
    go (Err why) e = refl

fitting_touched : (g : Geometry) (s : List ℕ) (a b : ℕ) → Fitting g s → Fitting g (noticed_pages g s a b)
fitting_touched g s a b f = go (eqb (page_of a) (page_of b)) refl
  where
    go : (t : Bool) → eqb (page_of a) (page_of b) ≡ t → Fitting g (noticed_pages g s a b)
    go true e = rw e (fitting_noticed g s f a)
    go false e = rw e (fitting_noticed g (noticed_in g s a) (fitting_noticed g s f a) b)

length-notice : (s : List ℕ) (a : ℕ) → length (notice_call s a).1 ≡ length s
length-notice s a = on_any_bytes s (λ o. length (notice_by o s a).1 ≡ length s) (λ g f. (fitting_noticed g s f a).exact ∙ sym f.exact) refl

length-notices : (s list : List ℕ) → length (notices_call s list).1 ≡ length s
length-notices s list = on_any_bytes s (λ o. length (notices_by o s list).1 ≡ length s) (λ g f. (fitting_all g s f list).exact ∙ sym f.exact) refl

length-flush : (s : List ℕ) → length (flush_call s).1 ≡ length s
length-flush s = on_any_bytes s (λ o. length (flush_by o s).1 ≡ length s) (λ g f. (fitting_flushed g s f).exact ∙ sym f.exact) refl

module _ (s m : List ℕ) (a n v : ℕ) where
  length-write : length (write_call s m a n v).1 ≡ length s
  length-write = go (write_judged (opened s) (length m) a n) refl
    where
      go : (j : Answer Geometry) → write_judged (opened s) (length m) a n ≡ j → length (write_by j s m a n v).1 ≡ length s
      go (Ok g) e = let f = opened-fits s g (write_granted s (length m) a n g e).sound in (fitting_touched g s a (a + n - 1) f).exact ∙ sym f.exact
      go (Err why) e = refl

  length-memory : length (write_call s m a n v).2 ≡ length m
  length-memory = go (write_judged (opened s) (length m) a n) refl
    where
      accepted : (g : Geometry) → Granted s (length m) a n g → length (patch m (a - g.base) (le n v)) ≡ length m
      accepted g t = length-patch m (a - g.base) (le n v) (omega (arith, length-le n v, t.low, t.high, t.whole))

      go : (j : Answer Geometry) → write_judged (opened s) (length m) a n ≡ j → length (write_by j s m a n v).2 ≡ length m
      go (Ok g) e = accepted g (write_granted s (length m) a n g e)
      go (Err why) e = refl

length-store : (c : Use) (l : Lent) → length (done c l).1.store ≡ length l.store
unfolding done
length-store (lookup a) l = refl
length-store (insert a rec) l = length-insert l.store a rec
length-store (notice a) l = length-notice l.store a
length-store (notices list) l = length-notices l.store list
length-store flush l = length-flush l.store
length-store generation l = refl
length-store (write a n v) l = length-write l.store l.memory a n v

length-room : (c : Use) (l : Lent) → length (done c l).1.memory ≡ length l.memory
unfolding done
length-room (lookup a) l = refl
length-room (insert a rec) l = refl
length-room (notice a) l = refl
length-room (notices list) l = refl
length-room flush l = refl
length-room generation l = refl
length-room (write a n v) l = length-memory l.store l.memory a n v

sound_same : (k g : Geometry) → Some k ≡ Some g → k ≡ g
sound_same k g e = cc

-- each call keeps a store that stands for a past
module _ (g : Geometry) (h : List Event) (s : List ℕ) (y : Stands g h s) where
  -- what the store's judges accept is its own geometry
  insert_own : (a : ℕ) (rec : List ℕ) (k : Geometry) → insert_judged (Some g) a rec ≡ Ok k → insert_judged (Some g) a rec ≡ Ok g
  insert_own a rec k e = e ∙ ap Ok (sound_same k g (sym (insert_taken s a rec k (ap (λ (o : Option Geometry). insert_judged o a rec) y.sound ∙ e)).sound ∙ y.sound))

  pub write_own : (m_len a n : ℕ) (k : Geometry) → write_judged (Some g) m_len a n ≡ Ok k → (write_judged (Some g) m_len a n ≡ Ok g) × Granted s m_len a n g
  write_own m_len a n k e =
      let t = write_granted s m_len a n k (ap (λ (o : Option Geometry). write_judged o m_len a n) y.sound ∙ e) in
      let same = sound_same k g (sym t.sound ∙ y.sound) in
      (e ∙ ap Ok same, subst (Granted s m_len a n) same t)

  module _ (m : List ℕ) where
    insert_follows : (a : ℕ) (rec : List ℕ) → Stands g (events (length m) g (insert a rec) ++ h) (insert_call s a rec).1
    unfolding events
    insert_follows a rec = go (insert_judged (Some g) a rec) refl
      where
        go : (j : Answer Geometry) → insert_judged (Some g) a rec ≡ j → Stands g (events (length m) g (insert a rec) ++ h) (insert_call s a rec).1
        go (Ok k) e = let own = insert_own a rec k e in rw (y.sound, own) (insert_keeps g h s y a rec own)
        go (Err why) e = rw (y.sound, e) y

    write_follows : (a n v : ℕ) → Stands g (events (length m) g (write a n v) ++ h) (write_call s m a n v).1
    unfolding events
    write_follows a n v = go (write_judged (Some g) (length m) a n) refl
      where
        go : (j : Answer Geometry) → write_judged (Some g) (length m) a n ≡ j → Stands g (events (length m) g (write a n v) ++ h) (write_call s m a n v).1
        go (Ok k) e = let own = write_own (length m) a n k e in rw (y.sound, own.0) (write_keeps g h s y a (a + n - 1))
        go (Err why) e = rw (y.sound, e) y

keeps : (g : Geometry) (h : List Event) (l : Lent) → Stands g h l.store → (c : Use) → Stands g (events (length l.memory) g c ++ h) (done c l).1.store
unfolding events done
keeps g h l y (lookup a) = y
keeps g h l y (insert a rec) = insert_follows g h l.store y l.memory a rec
keeps g h l y (notice a) = rw y.sound (notice_keeps g h l.store y a)
keeps g h l y (notices list) = rw y.sound (notices_keeps g h l.store y list)
keeps g h l y flush = rw y.sound (flush_keeps g h l.store y)
keeps g h l y generation = y
keeps g h l y (write a n v) = write_follows g h l.store y l.memory a n v

-- both buffers, after calls that told this past
pub record Kept (s_len m_len : ℕ) (p : Past) (l : Lent) : Type 0 where
  pub stored : length l.store ≡ s_len
  pub roomy : length l.memory ≡ m_len
  pub follows : Follows p l.store

module _ (s_len m_len : ℕ) (p : Past) (calls : List Call) (l : Lent) (k : Kept s_len m_len (past s_len m_len p calls) l) where
  made_kept : (reading e base pages : ℕ) → Kept s_len m_len (past s_len m_len p (make reading e base pages ∷ calls)) (storing l (make_call reading e base pages l.store).1)
  unfolding past
  made_kept reading e base pages = go (in_bounds reading e base pages) refl (eqb s_len (store_len g)) refl
    where
      g : Geometry
      g = geometry reading e base pages

      go : (x : Bool) → in_bounds reading e base pages ≡ x → (z : Bool) → eqb s_len (store_len g) ≡ z → Kept s_len m_len (past s_len m_len p (make reading e base pages ∷ calls)) (storing l (make_call reading e base pages l.store).1)
      go true ex true ez =
          rw (k.stored, ex, ez) (record {
            stored = (fitting_blank g (bounds_are reading e base pages ex) (header g 1) (header_long reading e base pages ex)).exact ∙ sym (eqb-true s_len (store_len g) ez);
            roomy = k.roomy;
            follows = make_keeps reading e base pages ex;
          })
      go true ex false ez = rw (k.stored, ex, ez) k
      go false ex z ez = rw (k.stored, ex) k

module _ (s_len m_len : ℕ) (p : Past) (l : Lent) (k : Kept s_len m_len p l) where
  used_kept : (c : Use) → Kept s_len m_len (grown m_len c p) (done c l).1
  used_kept c = record { stored = length-store c l ∙ k.stored; roomy = length-room c l ∙ k.roomy; follows = go p k.follows }
    where
      go : (p : Past) → Follows p l.store → Follows (grown m_len c p) (done c l).1.store
      go unmade y = tt
      go (since g h) y = subst (λ (n : ℕ). Stands g (events n g c ++ h) (done c l).1.store) k.roomy (keeps g h l y c)

pub kept : (p : Past) (l : Lent) → Follows p l.store → (calls : List Call) → Kept (length l.store) (length l.memory) (past_of p calls l) (run calls l)
unfolding past run
kept p l y [] = record { stored = refl; roomy = refl; follows = y }
kept p l y (make reading e base pages ∷ calls) = made_kept (length l.store) (length l.memory) p calls (run calls l) (kept p l y calls) reading e base pages
kept p l y (uses c ∷ calls) = used_kept (length l.store) (length l.memory) (past_of p calls l) (run calls l) (kept p l y calls) c
