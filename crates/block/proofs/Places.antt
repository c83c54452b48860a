-- What a good memory's bounds and a block's address say, as facts; and the bytes from an address to the end of its page.
-- Assumes nothing.
use mathlib.Core.Path.{◌≡◌, sym, ap, ◌∙◌}
use mathlib.Core.Bool.{true}
use mathlib.Core.List.{List, ◌++◌}
use Prim.Native.Nat.{ℕ, ◌+◌, ◌-◌, ◌*◌, ◌/◌, ◌%◌, ◌^◌, ◌≤◌, ◌<◌}
use native.Mathlib.Omega.{arith}
use lib.ListN.{length, take, drop, length-drop}
use lib.Seq.{length-take-le, take-add, drop_at, drop-drop}
use lib.Dec.{leb}
use borrow.Author.Tests.{eqb-true, leb-true}
use Rattle.block.specs.Memory.{good_memory, spans, in_memory, rest_of_page}
use Rattle.bits.proofs.Tests.{and_both}

pub record GoodMemory (len base : ℕ) : Type 0 where
  pub whole : len % 4096 ≡ 0
  pub based : base % 4096 ≡ 0
  pub least : 4096 ≤ len
  pub most : len ≤ 65536 * 4096
  pub top : base + len ≤ 2 ^ 56

pub good_memory_lem : {len base : ℕ} → good_memory len base ≡ true → GoodMemory len base
good_memory_lem e =
    let a = and_both _ _ e in
    let b = and_both _ _ a.0 in
    let c = and_both _ _ b.0 in
    let d = and_both _ _ c.0 in
    record { whole = eqb-true _ _ d.0; based = eqb-true _ _ d.1; least = leb-true _ _ c.1; most = leb-true _ _ b.1; top = leb-true _ _ a.1 }

pub spanned : (len base address n : ℕ) → spans len base address n ≡ true → (base ≤ address) × (address + n ≤ base + len)
spanned len base address n e = let a = and_both (leb base address) _ e in (leb-true _ _ a.0, leb-true _ _ a.1)

pub held : (len base address : ℕ) → in_memory len base address ≡ true → (base ≤ address) × (address < base + len)
held len base address e = let h = spanned len base address 1 e in (h.0, omega arith)

-- a part of the page that starts at the address, as the code lends it
pub rest_is : (memory : List ℕ) (base address : ℕ) → base % 4096 ≡ 0 → base ≤ address → address - base ≤ length memory
    → take (4096 - address % 4096) (drop (address - base) memory) ≡ rest_of_page memory base address
rest_is memory base address b h l =
    let off = address % 4096 in
    let start = (address - base) / 4096 * 4096 in
    let from : start + off ≡ address - base = omega arith in
    let most : off + (4096 - off) ≡ 4096 = omega arith in
    let front : length (take off (drop start memory)) ≡ off = length-take-le off (drop start memory) (simp length-drop (omega arith)) in
    let split : take 4096 (drop start memory) ≡ take off (drop start memory) ++ take (4096 - off) (drop off (drop start memory)) =
    ap (λ (n : ℕ). take n (drop start memory)) (sym most) ∙ take-add off (4096 - off) (drop start memory) in
    sym (ap (drop off) split ∙ drop_at (take off (drop start memory)) (take (4096 - off) (drop off (drop start memory))) off front
    ∙ ap (take (4096 - off)) (drop-drop off start memory ∙ ap (λ (n : ℕ). drop n memory) from))
