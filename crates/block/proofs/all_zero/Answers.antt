-- `block::all_zero` meets its contract: all bytes put together bit by bit are 0 where each is.
use mathlib.Core.Path.{◌≡◌, ap, ◌∙◌}
use Prim.Native.Nat.{ℕ}
use borrow.Author.Rules.{rules}
use lib.Bits.{bit_or}
use lib.Dec.{eqb}
use Rattle.std.specs.List.{fold}
use Rattle.std.proofs.lemmas.Iterator.{YieldsList-from_slice}
use Rattle.std.proofs.lemmas.Iterator.Consumers.{fold_from_yields_List}
use Rattle.block.proofs.Zeros.{seen_all}
use Rattle.block.proofs.all_zero.Goals as goal

pub returns : goal.returns
returns c =
    let s = c.args.s.now in
    let seen : c.fold.result ≡ fold bit_or 0 s = fold_from_yields_List _ bit_or 0 _ c.fold.ensures.ran (YieldsList-from_slice s cc) (λ a x b q k. search rules) in
    ap (λ (n : ℕ). eqb n 0) seen ∙ seen_all 0 s
