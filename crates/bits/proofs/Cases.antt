-- Laws of `case`. At a number that no row has it is the last answer, and what holds of every answer holds of it.
-- Assumes nothing.
use mathlib.Core.Path.{◌≡◌, refl, sym}
use mathlib.Core.Bool.{Bool, true, false, cond}
use mathlib.Core.List.{List, [], ◌∷◌}
use Prim.Native.Nat.{ℕ}
use lib.Dec.{eqb}
use borrow.Author.Tests.{ne_eqb}
use Rattle.bits.specs.Match.{Row, ◌⇒◌, case}

-- what the last arm of a `match` in the code knows
abbrev pub Rest : {A : Type 0} → ℕ → Type 0 → List (Row A) → Type 0
Rest x known [] = known
Rest x known ((k ⇒ a) ∷ rows) = Rest x (known × (x ≡ k → ⊥)) rows

missed : {A : Type 0} (x : ℕ) (known : Type 0) (rows : List (Row A)) (other : A) → Rest x known rows → known × (case x rows other ≡ other)
missed x known [] other h = (h, refl)
missed x known ((k ⇒ a) ∷ rows) other h =
    let r = missed x (known × (x ≡ k → ⊥)) rows other h in
    (r.0.0, rw (ne_eqb x k r.0.1) r.1)

pub none_of : {A : Type 0} (x : ℕ) (rows : List (Row A)) (other : A) → Rest x (Unit {0}) rows → other ≡ case x rows other
none_of x rows other h = sym (missed x (Unit {0}) rows other h).1

-- what is shown of each row's answer, as a tuple
abbrev pub AllRows : {A : Type 0} → (A → Type 0) → Type 0 → List (Row A) → Type 0
AllRows P known [] = known
AllRows P known ((k ⇒ a) ∷ rows) = AllRows P (known × P a) rows

whichever : {A : Type 0} (P : A → Type 0) (b : Bool) {x y : A} → P x → P y → P (cond b x y)
whichever P true p q = p
whichever P false p q = q

shown : {A : Type 0} (P : A → Type 0) (x : ℕ) (known : Type 0) (rows : List (Row A)) {other : A} → AllRows P known rows → P other → known × P (case x rows other)
shown P x known [] t o = (t, o)
shown P x known ((k ⇒ a) ∷ rows) t o =
    let r = shown P x (known × P a) rows t o in
    (r.0.0, whichever P (eqb x k) r.0.1 r.1)

pub at-any : {A : Type 0} (P : A → Type 0) (x : ℕ) (rows : List (Row A)) {other : A} → AllRows P (Unit {0}) rows → P other → P (case x rows other)
at-any P x rows t o = (shown P x (Unit {0}) rows t o).1
