-- Guest write: 1, 2, 8, 3; then a notice for each page touched, then the low bytes of the value.
-- Assumes nothing.
use Rattle.std.specs.Prelude.{ℕ, ◌+◌, ◌-◌, ◌*◌, ◌/◌, Bool, true, false, cond, List, [], ◌∷◌, eqb, length, Option, Some, None, Ok, Err}
use Rattle.bits.specs.Bytes.{le, patch}
use Rattle.bits.specs.Match.{◌⇒◌, case}
use Rattle.block.specs.Memory.{spans}
use Rattle.store.specs.Layout.{opened}
use Rattle.store.specs.declared.Geometry.{Geometry}
use Rattle.answer.specs.declared.Refusal.TheVariants.{NoStore, BadGeometry, OutsideMemory, WrongWriteSize}
use Rattle.cache.specs.Calls.{noticed_in, report_in, summed}
use Rattle.cache.specs.declared.Report.{Report}
use Rattle.answer.specs.Answer.{Answer}

abbrev pub good_size : ℕ → Bool
good_size n = case n ((1 ⇒ true) ∷ (2 ⇒ true) ∷ (4 ⇒ true) ∷ (8 ⇒ true) ∷ []) false

abbrev pub write_judged : Option Geometry → ℕ → ℕ → ℕ → Answer Geometry
write_judged (Some g) len a n =
    cond (eqb len (4096 * g.pages))
    (cond (good_size n) (cond (spans (4096 * g.pages) g.base a n) (Ok g) (Err OutsideMemory)) (Err WrongWriteSize))
    (Err BadGeometry)
write_judged None len a n = Err NoStore

-- a notice for each page of a write whose first byte is at a and whose last is at b
abbrev pub noticed_pages : Geometry → List ℕ → ℕ → ℕ → List ℕ
noticed_pages g s a b = cond (eqb (a / 4096) (b / 4096)) (noticed_in g s a) (noticed_in g (noticed_in g s a) b)

-- their report: the sum over both pages, each by the store before the call
abbrev pub report_pages : Geometry → List ℕ → ℕ → ℕ → Report
report_pages g s a b = cond (eqb (a / 4096) (b / 4096)) (report_in g s a) (summed (report_in g s a) (report_in g s b))

abbrev pub write_by : Answer Geometry → List ℕ → List ℕ → ℕ → ℕ → ℕ → Answer Report × List ℕ × List ℕ
write_by (Ok g) s m a n v =
    (Ok (report_pages g s a (a + n - 1)), noticed_pages g s a (a + n - 1), patch m (a - g.base) (le n v))
write_by (Err why) s m a n v = (Err why, s, m)

abbrev pub write_call : List ℕ → List ℕ → ℕ → ℕ → ℕ → Answer Report × List ℕ × List ℕ
write_call s m a n v = write_by (write_judged (opened s) (length m) a n) s m a n v
