-- Forming reads only the bytes of the address's page: memories that agree there form the same block, in any reading.
-- Assumes nothing.
use mathlib.Core.Path.{◌≡◌, sym, ap, ◌∙◌}
use mathlib.Core.List.{List}
use Prim.Native.Nat.{ℕ, ◌+◌, ◌-◌, ◌*◌, ◌/◌, ◌%◌, ◌<◌}
use native.Mathlib.Omega.{arith}
use lib.ListN.{length, get_or, drop, length-take, length-drop}
use lib.Seq.{ext_get_or, get_or-take, get_or-drop}
use Rattle.op.specs.Reading.{Reading}
use Rattle.block.specs.Memory.{page_bytes}
use Rattle.form.specs.Forming.{ops_from, formed}

pub same_page : (r : Reading) (memory other : List ℕ) (base address : ℕ) → page_bytes memory base address ≡ page_bytes other base address
    → formed r memory base address ≡ formed r other base address
same_page r memory other base address e = ap (λ (p : List ℕ). ops_from r (drop (address % 4096) p) 64 0) e

-- memories of one length agree on a page where each of its bytes agrees
pub by_bytes : (memory other : List ℕ) (base address : ℕ) → length memory ≡ length other
    → ((i : ℕ) → i / 4096 ≡ (address - base) / 4096 → get_or memory i 0 ≡ get_or other i 0) → page_bytes memory base address ≡ page_bytes other base address
by_bytes memory other base address l f =
    let start = (address - base) / 4096 * 4096 in
    ext_get_or 0 (page_bytes memory base address) (page_bytes other base address)
    (simp (length-take, length-drop, l))
    (λ i h.
    let few : i < 4096 = omega (arith, length-take 4096 (drop start memory)) in
    let at : (s : List ℕ) → get_or (page_bytes s base address) i 0 ≡ get_or s (start + i) 0 = λ s. get_or-take 4096 (drop start s) i 0 few ∙ get_or-drop start s i 0 in
    at memory ∙ f (start + i) (omega arith) ∙ sym (at other))
