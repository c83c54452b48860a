-- `block::put_head` meets its contract: two numbers, one behind the other.
use mathlib.Core.Path.{ap, ◌∙◌}
use mathlib.Core.List.{List}
use Prim.Native.Nat.{ℕ, ◌+◌, ◌*◌}
use borrow.Author.Rules.{rules}
use Rattle.bits.specs.Bytes.{le, patch}
use Rattle.block.proofs.Records.{head_put}
use Rattle.block.proofs.put_head.Goals as goal

pub returns : goal.returns
returns c =
    let a = c.args in
    c.put_doubleword-2.ensures
    ∙ ap (λ (s : List ℕ). patch s 8 (le 8 (a.count + 65536 * a.len))) c.put_doubleword.ensures
    ∙ head_put a.«record».now a.address a.count a.len (search rules) (search rules) c.requires
