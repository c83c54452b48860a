-- A block is the same in the Rust's reading and the manual's exactly where its walk meets no entry of docs/DIFFERENCES.md.
-- Assumes nothing.
use mathlib.Core.Path.{◌≡◌}
use mathlib.Core.Bool.{false}
use mathlib.Core.List.{List}
use Prim.Native.Nat.{ℕ}
use lib.ListN.{length}
use Rattle.reading.specs.Readings.{reading_of}
use Rattle.form.specs.Walk.{meets_difference}
use Rattle.form.specs.Call.{form_judged, form_call}
use Rattle.form.proofs.TwoReadings.{forms_alike, forms_alike_only}
use Rattle.form.proofs.Parts.{entries_part}
use Rattle.answer.specs.Answer.{done}

-- for whoever moves a plant from one reading to the other
module _ (memory : List ℕ) (base address : ℕ) (lent : List ℕ) where
  -- a block whose walk meets no entry is the same in both
  pub same_block : meets_difference memory base address ≡ false → form_call 0 memory base address lent ≡ form_call 1 memory base address lent
  unfolding form_call reading_of
  same_block = forms_alike entries_part memory base address lent (form_judged 0 (length memory) (length lent) base address)

  -- and one that is the same met none
  pub same_block_only : form_judged 0 (length memory) (length lent) base address ≡ done → form_call 0 memory base address lent ≡ form_call 1 memory base address lent
      → meets_difference memory base address ≡ false
  unfolding form_call reading_of
  same_block_only judged e = forms_alike_only entries_part memory base address lent (rw judged at e)
