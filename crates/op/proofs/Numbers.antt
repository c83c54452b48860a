-- A kind's number is its position, in the list of kinds and in the enum as it is declared.
-- Assumes nothing.
use mathlib.Core.Path.{◌≡◌, refl, sym, ap, ◌∙◌}
use mathlib.Core.List.{List, [], ◌∷◌}
use mathlib.Core.Logic.{inl, inr}
use Prim.Native.Nat.{ℕ, zero, suc, ◌<◌}
use native.Mathlib.Omega.{arith}
use denote.Enum.Declared.{Choice}
use lib.Dec.{T, eqb, eqb→eq}
use lib.ListN.{length, get_or, replicate}
use Rattle.bits.proofs.Every.{every, at}
use Rattle.op.specs.Kinds.{alu_kinds, alu_number, load_kinds, load_number, store_kinds, store_number, branch_kinds, branch_number, Positions}
use Rattle.op.specs.contracts.AluKind
use Rattle.op.specs.contracts.LoadKind
use Rattle.op.specs.contracts.StoreKind
use Rattle.op.specs.contracts.BranchKind

-- a value of an enum of n variants without fields, as every enum's generated module has it
abbrev Variant : ℕ → Type 0
Variant n = Choice (replicate n [])

-- all of them, in their order
abbrev variants : {A : Type 0} (n : ℕ) → (Variant n → A) → List A
variants zero make = []
variants (suc n) make = make (inl tt) ∷ variants n (λ v. make (inr v))

abbrev position : (n : ℕ) → Variant n → ℕ
position zero v = absurd v
position (suc n) (inl u) = 0
position (suc n) (inr v) = suc (position n v)

position_lt : (n : ℕ) (v : Variant n) → position n v < n
position_lt zero v = absurd v
position_lt (suc n) (inl u) = omega arith
position_lt (suc n) (inr v) = omega (arith, position_lt n v)

variant_at : {A : Type 0} (n : ℕ) (make : Variant n → A) (v : Variant n) (other : A) → get_or (variants n make) (position n v) other ≡ make v
variant_at zero make v other = absurd v
variant_at (suc n) make (inl u) other = refl
variant_at (suc n) make (inr v) other = variant_at n (λ v. make (inr v)) v other

length_variants : {A : Type 0} (n : ℕ) (make : Variant n → A) → length (variants n make) ≡ n
length_variants zero make = refl
length_variants (suc n) make = ap suc (length_variants n (λ v. make (inr v)))

-- where the list has the enum's variants in their order, and the numbers count it
module _ {A : Type 0} (n : ℕ) (make : Variant n → A) (values : A → Variant n) (eta : (k : A) → make (values k) ≡ k) (number : A → ℕ)
    (counted : (other : A) → T (every n (λ i. eqb (number (get_or (variants n make) i other)) i))) where
  here : (k other : A) → get_or (variants n make) (position n (values k)) other ≡ k
  here k other = variant_at n make (values k) other ∙ eta k

  count : (i : ℕ) (other : A) → i < n → number (get_or (variants n make) i other) ≡ i
  count i other h = eqb→eq _ _ (at n (λ i. eqb (number (get_or (variants n make) i other)) i) (counted other) i h)

  number_is : (k : A) → number k ≡ position n (values k)
  number_is k = sym (ap number (here k k)) ∙ count (position n (values k)) k (position_lt n (values k))

  positions : Positions (variants n make) number
  positions = record {
    below = λ k. rw (length_variants n make, number_is k) (position_lt n (values k));
    at = λ k other. ap (λ (i : ℕ). get_or (variants n make) i other) (number_is k) ∙ here k other;
    only = λ i other h. count i other (rw (length_variants n make) at h);
  }

pub alu_positions : Positions alu_kinds alu_number
alu_positions = positions 58 AluKind.the_make AluKind.as_values AluKind.the_eta alu_number (λ other. tt)

pub load_positions : Positions load_kinds load_number
load_positions = positions 7 LoadKind.the_make LoadKind.as_values LoadKind.the_eta load_number (λ other. tt)

pub store_positions : Positions store_kinds store_number
store_positions = positions 4 StoreKind.the_make StoreKind.as_values StoreKind.the_eta store_number (λ other. tt)

pub branch_positions : Positions branch_kinds branch_number
branch_positions = positions 6 BranchKind.the_make BranchKind.as_values BranchKind.the_eta branch_number (λ other. tt)
