-- At most one outcome satisfies a promise that is an equation with what the inputs give. Every call's promise is one.
-- Assumes nothing.
use mathlib.Core.Path.{◌≡◌, sym, ◌∙◌}

pub once : {A : Type 0} (call x y : A) → x ≡ call → y ≡ call → x ≡ y
once call x y p q = p ∙ sym q
