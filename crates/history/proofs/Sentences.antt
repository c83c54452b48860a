-- The recursive definitions say what the sentences say (docs/FORMATS.md, What any history guarantees).
-- Assumes nothing.
use mathlib.Core.Path.{◌≡◌, refl, ap, subst}
use mathlib.Core.Bool.{Bool, true, false, cond, ◌&&◌, ◌||◌, not, false≢true}
use mathlib.Core.List.{List, [], ◌∷◌, ◌++◌}
use mathlib.Core.Option.{none, some}
use Prim.Native.Nat.{ℕ}
use native.Mathlib.Omega.{arith}
use borrow.Author.Tests.{eqb-true, eqb-false, eq-eqb, ne_eqb}
use lib.Dec.{eqb}
use Rattle.bits.proofs.Tests.{or_right}
use Rattle.history.specs.History.{Event, inserted, touched, flushed, Every, none_left, and_then, shown, marked, Harmless, Lives, Quiet, Marked}

pub no_some : {A : Type 0} (r : List ℕ) → none ≡ some r → A
no_some r e = absurd (let z : ◌≡◌ {A = ℕ} 0 1 = cc in omega arith)

among : (P : Event → Type 0) (since before : List Event) (e : Event) → Every P (since ++ e ∷ before) → P e
among P [] before e (and_then p l) = p
among P (x ∷ since) before e (and_then p l) = among P since before e l

module _ (slot page : ℕ → ℕ) where
  later : (e : Event) (h : List Event) (a : ℕ) (r : List ℕ) → Harmless slot page a e → Lives slot page h a r → Lives slot page (e ∷ h) a r
  later e h a r s l = record { since = e ∷ l.since; before = l.before; is = ap (λ (z : List Event). e ∷ z) l.is; safe = and_then s l.safe }

  pub shown_lives : (h : List Event) (a : ℕ) (r : List ℕ) → shown slot page h a ≡ some r → Lives slot page h a r
  unfolding shown
  shown_lives [] a r e = no_some r e
  shown_lives (inserted b q ∷ h) a r e = go (shown_lives h a r) (eqb b a) (eqb (slot b) (slot a)) refl refl e
    where
      go : (shown slot page h a ≡ some r → Lives slot page h a r) → (u t : Bool) → eqb b a ≡ u → eqb (slot b) (slot a) ≡ t → cond u (some q) (cond t none (shown slot page h a)) ≡ some r → Lives slot page (inserted b q ∷ h) a r
      go ih true t eu et k =
          let qr : q ≡ r = cc in
          let ba : b ≡ a = eqb-true b a eu in
          record { since = []; before = h; is = cc; safe = none_left }
      go ih false true eu et k = no_some r k
      go ih false false eu et k = later (inserted b q) h a r (eqb-false (slot b) (slot a) et) (ih k)
  shown_lives (touched p ∷ h) a r e = go (shown_lives h a r) (eqb p (page a)) refl e
    where
      go : (shown slot page h a ≡ some r → Lives slot page h a r) → (t : Bool) → eqb p (page a) ≡ t → cond t none (shown slot page h a) ≡ some r → Lives slot page (touched p ∷ h) a r
      go ih true et k = no_some r k
      go ih false et k = later (touched p) h a r (eqb-false p (page a) et) (ih k)
  shown_lives (flushed ∷ h) a r e = no_some r e

  lives : (since before : List Event) (a : ℕ) (r : List ℕ) → Every (Harmless slot page a) since → shown slot page (since ++ inserted a r ∷ before) a ≡ some r
  unfolding shown
  lives [] before a r none_left = rw (eq-eqb a a refl)
  lives (inserted b q ∷ since) before a r (and_then s l) = rw (ne_eqb b a (λ e. s (ap slot e)), ne_eqb (slot b) (slot a) s) (lives since before a r l)
  lives (touched p ∷ since) before a r (and_then s l) = rw (ne_eqb p (page a) s) (lives since before a r l)
  lives (flushed ∷ since) before a r (and_then s l) = absurd s

  pub lives_shown : (h : List Event) (a : ℕ) (r : List ℕ) → Lives slot page h a r → shown slot page h a ≡ some r
  lives_shown h a r l = rw l.is (lives l.since l.before a r l.safe)

  again : (e : Event) (h : List Event) (p : ℕ) → Quiet slot page p e → Marked slot page h p → Marked slot page (e ∷ h) p
  again e h p s l = record { since = e ∷ l.since; before = l.before; a = l.a; r = l.r; is = ap (λ (z : List Event). e ∷ z) l.is; in_page = l.in_page; safe = and_then s l.safe }

  pub marked-is : (h : List Event) (p : ℕ) → marked slot page h p ≡ true → Marked slot page h p
  unfolding marked
  marked-is [] p e = absurd (false≢true e)
  marked-is (inserted a r ∷ h) p e = go (marked-is h p) (eqb (page a) p) refl e
    where
      go : (marked slot page h p ≡ true → Marked slot page h p) → (t : Bool) → eqb (page a) p ≡ t → (t || marked slot page h p) ≡ true → Marked slot page (inserted a r ∷ h) p
      go ih true et k = record { since = []; before = h; a = a; r = r; is = refl; in_page = eqb-true (page a) p et; safe = none_left }
      go ih false et k = again (inserted a r) h p tt (ih k)
  marked-is (touched q ∷ h) p e = go (marked-is h p) (eqb q p) refl e
    where
      go : (marked slot page h p ≡ true → Marked slot page h p) → (t : Bool) → eqb q p ≡ t → (not t && marked slot page h p) ≡ true → Marked slot page (touched q ∷ h) p
      go ih true et k = absurd (false≢true k)
      go ih false et k = again (touched q) h p (eqb-false q p et) (ih k)
  marked-is (flushed ∷ h) p e = absurd (false≢true e)

  stays : (since before : List Event) (a p : ℕ) (r : List ℕ) → page a ≡ p → Every (Quiet slot page p) since → marked slot page (since ++ inserted a r ∷ before) p ≡ true
  unfolding marked
  stays [] before a p r e none_left = rw (eq-eqb (page a) p e)
  stays (inserted b q ∷ since) before a p r e (and_then s l) = or_right (eqb (page b) p) (stays since before a p r e l)
  stays (touched q ∷ since) before a p r e (and_then s l) = rw (ne_eqb q p s) (stays since before a p r e l)
  stays (flushed ∷ since) before a p r e (and_then s l) = absurd s

  pub is-marked : (h : List Event) (p : ℕ) → Marked slot page h p → marked slot page h p ≡ true
  is-marked h p m = rw m.is (stays m.since m.before m.a p m.r m.in_page m.safe)

  pub shown_was : (P : Event → Type 0) (h : List Event) → Every P h → (a : ℕ) (r : List ℕ) → shown slot page h a ≡ some r → P (inserted a r)
  shown_was P h l a r e = let w = shown_lives h a r e in among P w.since w.before (inserted a r) (subst (Every P) w.is l)
