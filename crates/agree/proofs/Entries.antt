-- What any list of entries gives that tells of two readings: at an entry they differ, in more than operands, and the manual's reading is the Rust's amended.
-- Assumes nothing.
use mathlib.Core.Path.{◌≡◌, refl, sym, ap, ◌∙◌}
use mathlib.Core.Bool.{Bool, true, false, cond, not, ◌&&◌, ◌||◌}
use mathlib.Core.List.{List, [], ◌∷◌}
use Prim.Native.Nat.{ℕ, suc, ◌+◌, ◌*◌}
use lib.Dec.{T, eqb, eqb_refl}
use borrow.Author.Tests.{eqb-true}
use Rattle.bits.proofs.Every.{both}
use Rattle.bits.proofs.Tests.{and_both, true_false}
use Rattle.op.specs.Record.{op_fields}
use Rattle.agree.specs.Differences.{Entry, listed, Told, amended}
use Rattle.op.specs.declared.Op.{Op}
use Rattle.std.specs.Prelude.{Option, Some, None}

-- what tells two answers apart whatever their operands are: whether there is an op, its number and its kind
abbrev pub lead : Option Op → List ℕ
lead None = []
lead (Some op) = (op_fields op).op ∷ (op_fields op).kind ∷ []

-- as one number, to be compared
abbrev stamp_of : List ℕ → ℕ
stamp_of [] = 0
stamp_of (op ∷ []) = 0
stamp_of (op ∷ kind ∷ _) = suc op * 64 + kind

abbrev stamp : Option Op → ℕ
stamp d = stamp_of (lead d)

abbrev unlike : Option Op → Option Op → Bool
unlike a b = not (eqb (stamp a) (stamp b))

-- antt computes this with w left open
abbrev pub apart : List Entry → ℕ → Bool
apart [] w = true
apart (e ∷ es) w = unlike (e.rust w) (e.manual w) && apart es w

refuted : (a b : Option Op) → lead a ≡ lead b → T (unlike a b) → ⊥
refuted a b p = rw (ap stamp_of p) (λ t. no (eqb (stamp b) (stamp b)) (eqb_refl (stamp b)) t)
  where
    no : (a : Bool) → T a → T (not a) → ⊥
    no true s t = t
    no false s t = s

-- what is asked of a row that one entry has, or two
pub one_asks : (b : Bool) → b ≡ (b || false)
one_asks true = refl
one_asks false = refl

pub two_ask : (a b : Bool) → b ≡ ((a && b) || ((not a && b) || false))
two_ask true true = refl
two_ask true false = refl
two_ask false true = refl
two_ask false false = refl

-- two fields and a test, as an entry asks for them
pub fields : (x k y l : ℕ) (t : Bool) → (eqb x k && eqb y l && t) ≡ true → (x ≡ k) × (y ≡ l) × (t ≡ true)
fields x k y l t h =
    let a = and_both (eqb x k && eqb y l) t h in
    let b = and_both (eqb x k) (eqb y l) a.0 in
    (eqb-true x k b.0, eqb-true y l b.1, a.1)

module _ (rust manual : ℕ → Option Op) where
  pub differ_by : (es : List Entry) → Told es rust manual → (w : ℕ) → T (apart es w) → listed es w ≡ true → lead (rust w) ≡ lead (manual w) → ⊥
  differ_by [] t w a h d = true_false h refl
  differ_by (e ∷ es) t w a h d =
      let k = both (unlike (e.rust w) (e.manual w)) (apart es w) a in
      pick (e.covers w) refl k.0 (λ h. differ_by es t.2 w k.1 h d) h
    where
      pick : (c : Bool) → e.covers w ≡ c → T (unlike (e.rust w) (e.manual w)) → (listed es w ≡ true → ⊥) → (c || listed es w) ≡ true → ⊥
      pick true p k others h = let r = t.1 w p in refuted (e.rust w) (e.manual w) (sym (ap lead r.0) ∙ d ∙ ap lead r.1) k
      pick false p k others h = others h

  pub manual_by : (es : List Entry) → Told es rust manual → (w : ℕ) → (listed es w ≡ false → rust w ≡ manual w) → manual w ≡ amended es rust w
  manual_by [] t w a = sym (a refl)
  manual_by (e ∷ es) t w a = pick (e.covers w) refl (manual_by es t.2 w) a
    where
      pick : (c : Bool) → e.covers w ≡ c → ((listed es w ≡ false → rust w ≡ manual w) → manual w ≡ amended es rust w) → ((c || listed es w) ≡ false → rust w ≡ manual w) → manual w ≡ cond c (e.manual w) (amended es rust w)
      pick true p others a = (t.1 w p).1
      pick false p others a = others a

-- entries at which the manual has no op
abbrev Silent : List Entry → Type 0
Silent [] = Unit {0}
Silent (e ∷ es) = ((w : ℕ) → e.manual w ≡ None) × Silent es

pub silent : (es : List Entry) → Silent es → (rust : ℕ → Option Op) (w : ℕ) → amended es rust w ≡ cond (listed es w) None (rust w)
silent [] s rust w = refl
silent (e ∷ es) s rust w = rw (s.0 w, silent es s.1 rust w) (either (e.covers w) (listed es w))
  where
    either : (a b : Bool) → cond a None (cond b None (rust w)) ≡ cond (a || b) None (rust w)
    either true b = refl
    either false b = refl
