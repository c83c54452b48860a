-- Forming in two readings: the blocks are the same where the walk meets nothing at which the readings part, and other blocks where it does.
-- Assumes nothing.
use mathlib.Core.Path.{◌≡◌, refl, sym, ap, ap₂, ◌∙◌}
use mathlib.Core.Bool.{Bool, true, false, cond, ◌||◌}
use mathlib.Core.List.{List, [], ◌∷◌, ◌++◌, append_assoc}
use Prim.Native.Nat.{ℕ, zero, suc, ◌+◌, ◌-◌, ◌*◌, ◌<◌, ◌≤◌}
use native.Mathlib.Omega.{arith}
use lib.Dec.{eqb, ltb}
use lib.ListN.{length, get_or, drop, replicate}
use lib.Seq.{drop_at}
use Rattle.answer.specs.declared.Refusal.TheVariants.{NoOp}
use Rattle.bits.specs.Bytes.{halfword_at, word_at}
use Rattle.bits.proofs.Tests.{not_true, true_false}
use Rattle.op.specs.Reading.{Reading}
use Rattle.op.specs.Record.{fallback_number, op_fields, op_record}
use Rattle.op.specs.declared.Op.{Op}
use Rattle.op.specs.declared.Op.TheVariants.{Fallback}
use Rattle.op.proofs.Record.{length_record}
use Rattle.agree.proofs.Entries.{lead}
use Rattle.reading.proofs.Proper.{ProperIn}
use Rattle.block.specs.Memory.{rest_of_page}
use Rattle.block.specs.Record.{Insn, insn, op_records, byte_len}
use Rattle.block.specs.WellFormed.{jumps}
use Rattle.block.proofs.Records.{record_tells}
use Rattle.form.specs.Forming.{stops_block, or_fallback, ilen_at, op_at, and_then, ops_from, formed}
use Rattle.form.specs.Walk.{goes_on, meets, stands_at, walk_meets}
use Rattle.form.specs.Call.{formed_into}
use Rattle.form.proofs.Judged.{not_done}
use Rattle.answer.specs.Answer.{Answer, done}
use Rattle.std.specs.Prelude.{Option, Some, None}

neither : (a b : Bool) → (a || b) ≡ false → (a ≡ false) × (b ≡ false)
neither false b h = (refl, h)
neither true b h = absurd (true_false refl h)

-- one step of the walk, with what each reading finds behind it
module _ (ilen : ℕ) (X Y : List Insn) (m : Bool) where
  step_same : (d : Option Op) → goes_on d m ≡ false → (m ≡ false → X ≡ Y) → and_then d ilen X ≡ and_then d ilen Y
  step_same None h f = refl
  step_same (Some op) h f = ap (λ (next : List Insn). insn op ilen ∷ next) (by (jumps (op_fields op).op) h)
    where
      by : (b : Bool) → cond b false m ≡ false → cond b [] X ≡ cond b [] Y
      by true h = refl
      by false h = f h

  module _ (at : ℕ) (z z' : List ℕ) where
    -- records that are the same lead with the same op and kind
    leads : (d d' : Option Op) → length (and_then d ilen X) ≡ length (and_then d' ilen Y)
        → op_records at (and_then d ilen X) ++ z ≡ op_records at (and_then d' ilen Y) ++ z' → lead d ≡ lead d'
    unfolding op_records
    leads None None l e = refl
    leads None (Some op) l e = absurd (let no : 0 ≡ suc (length (cond (jumps (op_fields op).op) [] Y)) = l in omega arith)
    leads (Some op) None l e = absurd (let no : suc (length (cond (jumps (op_fields op).op) [] X)) ≡ 0 = l in omega arith)
    leads (Some op) (Some op') l e = ap₂ (λ (n k : ℕ). n ∷ k ∷ []) (ap (λ (s : List ℕ). get_or s 0 0) e) (ap (λ (s : List ℕ). get_or s 1 0) e)

    -- behind an op that both have, what is left is the same too
    step_on : (d : Option Op) → goes_on d m ≡ true → length (and_then d ilen X) ≡ length (and_then d ilen Y)
        → op_records at (and_then d ilen X) ++ z ≡ op_records at (and_then d ilen Y) ++ z'
        → (m ≡ true) × (length X ≡ length Y) × (op_records (at + ilen) X ++ z ≡ op_records (at + ilen) Y ++ z')
    unfolding op_records
    step_on None h l e = absurd (true_false h refl)
    step_on (Some op) h l e = by (jumps (op_fields op).op) h l e
      where
        by : (b : Bool) → cond b false m ≡ true → suc (length (cond b [] X)) ≡ suc (length (cond b [] Y))
            → (op_record op ilen at ++ op_records (at + ilen) (cond b [] X)) ++ z ≡ (op_record op ilen at ++ op_records (at + ilen) (cond b [] Y)) ++ z'
            → (m ≡ true) × (length X ≡ length Y) × (op_records (at + ilen) X ++ z ≡ op_records (at + ilen) Y ++ z')
        by true h l e = absurd (true_false h refl)
        by false h l e =
            let behind : (ops : List Insn) (t : List ℕ) → drop 16 ((op_record op ilen at ++ op_records (at + ilen) ops) ++ t) ≡ op_records (at + ilen) ops ++ t =
            λ ops t. ap (drop 16) (append_assoc (op_record op ilen at) (op_records (at + ilen) ops) t) ∙ drop_at (op_record op ilen at) (op_records (at + ilen) ops ++ t) 16 (length_record op ilen at) in
            (h, omega arith, sym (behind X z) ∙ ap (drop 16) e ∙ behind Y z')

-- two readings that read alike wherever nothing is asked for
module _ (r r' : Reading) (s : List ℕ) (asked : ℕ → Bool) (alike : (at : ℕ) → asked at ≡ false → op_at r s at ≡ op_at r' s at) where
  pub same_ops : (n at : ℕ) → meets asked r s n at ≡ false → ops_from r s n at ≡ ops_from r' s n at
  unfolding meets ops_from
  same_ops zero at h = refl
  same_ops (suc n) at h =
      let ilen = ilen_at s at in
      let k = neither (asked at) (goes_on (op_at r s at) (meets asked r s n (at + ilen))) h in
      step_same ilen (ops_from r s n (at + ilen)) (ops_from r' s n (at + ilen)) (meets asked r s n (at + ilen)) (op_at r s at) k.1 (same_ops n (at + ilen))
      ∙ ap (λ (d : Option Op). and_then d ilen (ops_from r' s n (at + ilen))) (alike at k.0)

  -- the walk is the same in both, up to where they part
  pub same_walk : (n at : ℕ) → meets asked r s n at ≡ meets asked r' s n at
  unfolding meets
  same_walk zero at = refl
  same_walk (suc n) at = by (asked at) refl (same_walk n (at + ilen_at s at))
    where
      by : (b : Bool) → asked at ≡ b → {m m' : Bool} → m ≡ m' → (b || goes_on (op_at r s at) m) ≡ (b || goes_on (op_at r' s at) m')
      by true k e = refl
      by false k e = ap₂ goes_on (alike at k) e

  -- and that read unlike wherever something is
  module _ (unlike : (at : ℕ) → asked at ≡ true → lead (op_at r s at) ≡ lead (op_at r' s at) → ⊥) where
    pub other_records : (n at : ℕ) (z z' : List ℕ) → meets asked r s n at ≡ true → length (ops_from r s n at) ≡ length (ops_from r' s n at)
        → op_records at (ops_from r s n at) ++ z ≡ op_records at (ops_from r' s n at) ++ z' → ⊥
    unfolding meets ops_from
    other_records zero at z z' h l e = true_false h refl
    other_records (suc n) at z z' h l e = by (asked at) refl h (other_records n (at + ilen_at s at) z z')
      where
        by : (b : Bool) → asked at ≡ b → (b || goes_on (op_at r s at) (meets asked r s n (at + ilen_at s at))) ≡ true
            → (meets asked r s n (at + ilen_at s at) ≡ true → length (ops_from r s n (at + ilen_at s at)) ≡ length (ops_from r' s n (at + ilen_at s at))
            → op_records (at + ilen_at s at) (ops_from r s n (at + ilen_at s at)) ++ z ≡ op_records (at + ilen_at s at) (ops_from r' s n (at + ilen_at s at)) ++ z' → ⊥)
            → ⊥
        by true k h later = unlike at k (leads (ilen_at s at) (ops_from r s n (at + ilen_at s at)) (ops_from r' s n (at + ilen_at s at)) (meets asked r s n (at + ilen_at s at)) at z z' (op_at r s at) (op_at r' s at) l e)
        by false k h later =
            let p = sym (alike at k) in
            let on = step_on (ilen_at s at) (ops_from r s n (at + ilen_at s at)) (ops_from r' s n (at + ilen_at s at)) (meets asked r s n (at + ilen_at s at)) at z z' (op_at r s at) h (rw p at l) (rw p at e) in
            later on.0 on.1 on.2

  -- where the first has no op wherever something is asked for, its block ends before the first of these, and the other's goes on from there
  module _ (none : (at : ℕ) → asked at ≡ true → op_at r s at ≡ None) where
    abbrev Ends : ℕ → ℕ → List Insn → List Insn → Type 0
    Ends n at front other = (asked (at + byte_len front) ≡ true) × (length front < n) × (other ≡ front ++ ops_from r' s (n - length front) (at + byte_len front))

    on_ends : (n at : ℕ) (X Y : List Insn) (m : Bool) (d : Option Op) → goes_on d m ≡ true → (m ≡ true → Ends n (at + ilen_at s at) X Y)
        → Ends (suc n) at (and_then d (ilen_at s at) X) (and_then d (ilen_at s at) Y)
    unfolding byte_len
    on_ends n at X Y m None h later = absurd (true_false h refl)
    on_ends n at X Y m (Some op) h later = by (jumps (op_fields op).op) h
      where
        by : (b : Bool) → cond b false m ≡ true → Ends (suc n) at (insn op (ilen_at s at) ∷ cond b [] X) (insn op (ilen_at s at) ∷ cond b [] Y)
        by true h = absurd (true_false h refl)
        by false h =
            let k = later h in
            let z : at + (ilen_at s at + byte_len X) ≡ at + ilen_at s at + byte_len X = omega arith in
            let y : suc n - suc (length X) ≡ n - length X = omega arith in
            rw (z, y) (k.0, omega arith, ap (λ (next : List Insn). insn op (ilen_at s at) ∷ next) k.2)

    pub ends_before : (n at : ℕ) → meets asked r s n at ≡ true → Ends n at (ops_from r s n at) (ops_from r' s n at)
    unfolding meets ops_from byte_len
    ends_before zero at h = absurd (true_false h refl)
    ends_before (suc n) at h = by (asked at) refl h (ends_before n (at + ilen_at s at))
      where
        by : (b : Bool) → asked at ≡ b → (b || goes_on (op_at r s at) (meets asked r s n (at + ilen_at s at))) ≡ true
            → (meets asked r s n (at + ilen_at s at) ≡ true → Ends n (at + ilen_at s at) (ops_from r s n (at + ilen_at s at)) (ops_from r' s n (at + ilen_at s at)))
            → Ends (suc n) at (and_then (op_at r s at) (ilen_at s at) (ops_from r s n (at + ilen_at s at))) (and_then (op_at r' s at) (ilen_at s at) (ops_from r' s n (at + ilen_at s at)))
        by true k h later =
            let z : at + 0 ≡ at = omega arith in
            let y : suc n - 0 ≡ suc n = omega arith in
            rw (none at k, z, y) (k, omega arith, refl)
        by false k h later = rw (← alike at k) (on_ends n at (ops_from r s n (at + ilen_at s at)) (ops_from r' s n (at + ilen_at s at)) (meets asked r s n (at + ilen_at s at)) (op_at r s at) h later)

ops_few : (r : Reading) (s : List ℕ) (n at : ℕ) → length (ops_from r s n at) ≤ n
unfolding ops_from
ops_few r s zero at = omega arith
ops_few r s (suc n) at = by (op_at r s at) (ops_from r s n (at + ilen_at s at)) (ops_few r s n (at + ilen_at s at))
  where
    one : (b : Bool) (next : List Insn) → length next ≤ n → suc (length (cond b [] next)) ≤ suc n
    one true next h = omega arith
    one false next h = omega arith

    by : (d : Option Op) (next : List Insn) → length next ≤ n → length (and_then d (ilen_at s at) next) ≤ suc n
    by None next h = omega arith
    by (Some op) next h = one (jumps (op_fields op).op) next h

-- a call that may begin tells how many ops it found, and their records
module _ (address : ℕ) (lent : List ℕ) where
  into_tells : (ops other : List Insn) → length ops ≤ 64 → length other ≤ 64 → formed_into done address ops lent ≡ formed_into done address other lent
      → (length ops ≡ length other) × (op_records 0 ops ++ replicate (1024 - 16 * length ops) 0 ≡ op_records 0 other ++ replicate (1024 - 16 * length other) 0)
  into_tells [] [] h k e = (refl, refl)
  into_tells [] (b ∷ other) h k e = absurd (not_done NoOp (ap (λ (o : Answer (Unit {0}) × List ℕ). o.0) e))
  into_tells (a ∷ ops) [] h k e = absurd (not_done NoOp (sym (ap (λ (o : Answer (Unit {0}) × List ℕ). o.0) e)))
  into_tells (a ∷ ops) (b ∷ other) h k e = record_tells address (a ∷ ops) (b ∷ other) h k (ap (λ (o : Answer (Unit {0}) × List ℕ). o.1) e)

-- a word that is kept in either reading, where one may be kept as Fallback
fell : (raw : ℕ) (op : Op) → eqb (op_fields op).op fallback_number ≡ false → (b : Bool) → lead (Some op) ≡ lead (cond b None (Some (Fallback raw))) → ⊥
fell raw op n true e = let no : suc (suc zero) ≡ zero = ap length e in omega arith
fell raw op n false e = let is : (op_fields op).op ≡ fallback_number = ap (λ (s : List ℕ). get_or s 0 0) e in true_false refl (rw is at n)

kept_unlike : (raw : ℕ) (d d' : Option Op) → ProperIn d → ProperIn d' → (lead d ≡ lead d' → ⊥) → lead (or_fallback raw d) ≡ lead (or_fallback raw d') → ⊥
kept_unlike raw None None p p' u e = u refl
kept_unlike raw None (Some op) p p' u e = fell raw op (p' op refl).0 (stops_block raw) (sym e)
kept_unlike raw (Some op) None p p' u e = fell raw op (p op refl).0 (stops_block raw) e
kept_unlike raw (Some op) (Some op') p p' u e = u e

-- forming in any reading, behind the checks
abbrev formed_by : Answer (Unit {0}) → Reading → List ℕ → ℕ → ℕ → List ℕ → Answer (Unit {0}) × List ℕ
formed_by judged reading memory base address lent = formed_into judged address (formed reading memory base address) lent

-- two readings that part at these halfwords and words: elsewhere they read alike, and there they differ in more than operands
pub record Part (r r' : Reading) (half word : ℕ → Bool) : Type 0 where
  pub half_alike : (h : ℕ) → half h ≡ false → r.of_half h ≡ r'.of_half h
  pub half_unlike : (h : ℕ) → half h ≡ true → lead (r.of_half h) ≡ lead (r'.of_half h) → ⊥
  pub word_alike : (w : ℕ) → word w ≡ false → r.of_word w ≡ r'.of_word w
  pub word_unlike : (w : ℕ) → word w ≡ true → lead (r.of_word w) ≡ lead (r'.of_word w) → ⊥
  pub word_proper : (w : ℕ) → ProperIn (r.of_word w) × ProperIn (r'.of_word w)

module _ {r r' : Reading} {half word : ℕ → Bool} (p : Part r r' half word) where
  abbrev parted : List ℕ → ℕ → Bool
  parted = stands_at half word

  pub parted_alike : (s : List ℕ) (at : ℕ) → parted s at ≡ false → op_at r s at ≡ op_at r' s at
  unfolding op_at
  parted_alike s at = by (ltb (length s) (at + 2)) (eqb (ilen_at s at) 2) (ltb (length s) (at + 4)) (halfword_at s at) (word_at s at)
    where
      by : (a b c : Bool) (h w : ℕ) → cond a false (cond b (half h) (cond c false (word w))) ≡ false
          → cond a None (cond b (r.of_half h) (cond c None (or_fallback w (r.of_word w)))) ≡ cond a None (cond b (r'.of_half h) (cond c None (or_fallback w (r'.of_word w))))
      by true b c h w e = refl
      by false true c h w e = p.half_alike h e
      by false false true h w e = refl
      by false false false h w e = ap (or_fallback w) (p.word_alike w e)

  parted_unlike : (s : List ℕ) (at : ℕ) → parted s at ≡ true → lead (op_at r s at) ≡ lead (op_at r' s at) → ⊥
  unfolding op_at
  parted_unlike s at = by (ltb (length s) (at + 2)) (eqb (ilen_at s at) 2) (ltb (length s) (at + 4)) (halfword_at s at) (word_at s at)
    where
      by : (a b c : Bool) (h w : ℕ) → cond a false (cond b (half h) (cond c false (word w))) ≡ true
          → lead (cond a None (cond b (r.of_half h) (cond c None (or_fallback w (r.of_word w))))) ≡ lead (cond a None (cond b (r'.of_half h) (cond c None (or_fallback w (r'.of_word w))))) → ⊥
      by true b c h w e = absurd (true_false e refl)
      by false true c h w e = p.half_unlike h e
      by false false true h w e = absurd (true_false e refl)
      by false false false h w e = kept_unlike w (r.of_word w) (r'.of_word w) (p.word_proper w).0 (p.word_proper w).1 (p.word_unlike w e)

  module _ (memory : List ℕ) (base address : ℕ) (lent : List ℕ) where
    -- a block whose walk meets none of these is the same in both
    pub forms_alike : (judged : Answer (Unit {0})) → walk_meets parted r memory base address ≡ false → formed_by judged r memory base address lent ≡ formed_by judged r' memory base address lent
    forms_alike judged h =
        let s = rest_of_page memory base address in
        ap (λ (ops : List Insn). formed_into judged address ops lent) (same_ops r r' s (parted s) (parted_alike s) 64 0 h)

    -- and one that is the same met none
    pub forms_alike_only : formed_by done r memory base address lent ≡ formed_by done r' memory base address lent → walk_meets parted r memory base address ≡ false
    forms_alike_only e =
        let s = rest_of_page memory base address in
        let t = into_tells address lent (ops_from r s 64 0) (ops_from r' s 64 0) (ops_few r s 64 0) (ops_few r' s 64 0) e in
        not_true (walk_meets parted r memory base address)
        (λ h. other_records r r' s (parted s) (parted_alike s) (parted_unlike s) 64 0 _ _ h t.0 t.1)
