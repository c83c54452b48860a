-- A `match` on a number, as a definition: the answer of the first row with that number, or the last answer where there is none.
-- Assumes nothing.
use Rattle.std.specs.Prelude.{ℕ, cond, List, [], ◌∷◌, eqb}

pub data Row (A : Type 0) : Type 0 where
  ◌⇒◌ : ℕ → A → Row A

infix 5 ◌⇒◌
abbrev pub case : {A : Type 0} → ℕ → List (Row A) → A → A
case x [] other = other
case x ((k ⇒ a) ∷ rows) other = cond (eqb x k) a (case x rows other)
