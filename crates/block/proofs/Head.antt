-- What a well-formed record's head says, as facts; and with these facts the ops decide.
-- Assumes nothing.
use mathlib.Core.Path.{◌≡◌, refl}
use mathlib.Core.Bool.{Bool, true, false}
use mathlib.Core.List.{List}
use Prim.Native.Nat.{ℕ, ◌+◌, ◌%◌, ◌≤◌}
use lib.ListN.{length, drop}
use borrow.Author.Tests.{eqb-true, leb-true, eq-eqb, le-leb}
use Rattle.bits.specs.Bytes.{halfword_at, word_at, doubleword_at}
use Rattle.block.specs.WellFormed.{ops_well_formed, well_formed}
use Rattle.bits.proofs.Tests.{and_both}

pub record Head (s : List ℕ) (address : ℕ) : Type 0 where
  pub long : length s ≡ 1040
  pub addressed : doubleword_at s 0 ≡ address
  pub zeros : word_at s 12 ≡ 0
  pub some : 1 ≤ halfword_at s 8
  pub few : halfword_at s 8 ≤ 64
  pub in_page : address % 4096 + halfword_at s 10 ≤ 4096

abbrev ops_decide : List ℕ → Bool
ops_decide s = ops_well_formed (drop 16 s) (halfword_at s 8) 0 (halfword_at s 10)

pub decides : {s : List ℕ} {address : ℕ} → Head s address → well_formed s address ≡ ops_decide s
unfolding well_formed
decides h = rw (eq-eqb _ _ h.long, eq-eqb _ _ h.addressed, eq-eqb _ _ h.zeros, le-leb _ _ h.some, le-leb _ _ h.few, le-leb _ _ h.in_page)

pub says : {s : List ℕ} {address : ℕ} → well_formed s address ≡ true → Head s address × (ops_decide s ≡ true)
unfolding well_formed
says e =
    let a = and_both _ _ e in
    let b = and_both _ _ a.0 in
    let c = and_both _ _ b.0 in
    let d = and_both _ _ c.0 in
    let f = and_both _ _ d.0 in
    let g = and_both _ _ f.0 in (
      record {
        long = eqb-true _ _ g.0;
        addressed = eqb-true _ _ g.1;
        zeros = eqb-true _ _ f.1;
        some = leb-true _ _ d.1;
        few = leb-true _ _ c.1;
        in_page = leb-true _ _ b.1;
      },
      a.1,
    )

-- a record that isn't well formed
pub refuses : (s : List ℕ) (address : ℕ) → (Head s address → ⊥) → false ≡ well_formed s address
refuses s address broken = by (well_formed s address) (λ e. broken (says e).0)
  where
    by : (t : Bool) → (t ≡ true → ⊥) → false ≡ t
    by true f = absurd (f refl)
    by false f = refl
