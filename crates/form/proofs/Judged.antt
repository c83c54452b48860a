-- What the form call's judge found where forming may begin, and what a block that was formed tells.
-- Assumes nothing.
use mathlib.Core.Path.{◌≡◌, refl, ap}
use mathlib.Core.Bool.{Bool, true, false, cond, not}
use mathlib.Core.List.{List, [], ◌∷◌}
use Prim.Native.Nat.{ℕ, zero, suc}
use native.Mathlib.Omega.{arith}
use lib.Dec.{eqb}
use lib.ListN.{length}
use borrow.Author.Tests.{eqb-true}
use Rattle.answer.specs.declared.Refusal.{Refusal}
use Rattle.answer.specs.declared.Refusal.TheVariants.{BadGeometry, OutsideMemory, NoOp, WrongBuffer}
use Rattle.op.specs.Reading.{reading_known}
use Rattle.reading.specs.Readings.{reading_of}
use Rattle.block.specs.Memory.{good_memory, in_memory}
use Rattle.block.specs.Record.{Insn, block_record}
use Rattle.form.specs.Forming.{formed}
use Rattle.form.specs.Call.{form_judged, formed_into, form_call}
use Rattle.answer.specs.Answer.{Answer, done}
use Rattle.std.specs.Prelude.{Ok, Err}

pub record Begun (reading len room base address : ℕ) : Type 0 where
  pub known : reading_known reading ≡ true
  pub good : good_memory len base ≡ true
  pub whole : room ≡ 1040
  pub inner : in_memory len base address ≡ true

pub begun : (reading len room base address : ℕ) → form_judged reading len room base address ≡ done → Begun reading len room base address
begun reading len room base address e =
    let f = by (reading_known reading) (good_memory len base) (eqb room 1040) (in_memory len base address) e in
    record { known = f.0; good = f.1; whole = eqb-true room 1040 f.2; inner = f.3 }
  where
    by : (k a b c : Bool) → cond (not k) (Err BadGeometry) (cond (not a) (Err BadGeometry) (cond (not b) (Err WrongBuffer) (cond (not c) (Err OutsideMemory) done))) ≡ done
        → (k ≡ true) × (a ≡ true) × (b ≡ true) × (c ≡ true)
    by true true true true e = (refl, refl, refl, refl)
    by true true true false e = (refl, refl, refl, cc)
    by true true false c e = (refl, refl, cc, cc)
    by true false b c e = (refl, cc, cc, cc)
    by false a b c e = (cc, cc, cc, cc)

pub not_done : (why : Refusal) → Err why ≡ done → ⊥
not_done why e = let no : suc zero ≡ zero = cc in omega arith

module _ (address : ℕ) (lent rec : List ℕ) where
  into_done : (j : Answer (Unit {0})) (ops : List Insn) → formed_into j address ops lent ≡ (done, rec) → (j ≡ done) × (length ops ≡ 0 → ⊥) × (block_record address ops ≡ rec)
  into_done (Err why) ops e = absurd (not_done why (ap (λ (o : Answer (Unit {0}) × List ℕ). o.0) e))
  into_done (Ok tt) [] e = absurd (not_done NoOp (ap (λ (o : Answer (Unit {0}) × List ℕ). o.0) e))
  into_done (Ok tt) (first ∷ rest) e = (refl, λ z. (let none : suc (length rest) ≡ 0 = z in omega arith), ap (λ (o : Answer (Unit {0}) × List ℕ). o.1) e)

  -- a block that was formed: forming might begin, it has ops, and its record was written
  pub formed-done : (reading : ℕ) (memory : List ℕ) (base : ℕ) → form_call reading memory base address lent ≡ (done, rec)
      → Begun reading (length memory) (length lent) base address × (length (formed (reading_of reading) memory base address) ≡ 0 → ⊥)
      × (block_record address (formed (reading_of reading) memory base address) ≡ rec)
  unfolding form_call
  formed-done reading memory base e =
      let f = into_done (form_judged reading (length memory) (length lent) base address) (formed (reading_of reading) memory base address) e in
      (begun reading (length memory) (length lent) base address f.0, f.1, f.2)
