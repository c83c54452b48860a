-- `cache::lookup` meets its contract: a hit is a part of the store.
use Rattle.std.proofs.Common.{ℕ, sym, ap, ◌∙◌, arith}
use native.Mathlib.Nat.{add-sub_cancel_left}
use Rattle.bits.specs.Bytes.{part}
use Rattle.cache.specs.Answers.{lookup_part}
use Rattle.cache.proofs.Checks.{hit-fits}
use Rattle.cache.proofs.lookup.Goals as goal

pub overflow_add-result : goal.overflow_add-result
overflow_add-result c = omega (arith, hit-fits c.args.store.now c.args.address _ (sym c.in-Ok.ensures), c.well_formed)

pub slice_bounds-result-end : goal.slice_bounds-result-end
slice_bounds-result-end c = hit-fits c.args.store.now c.args.address _ (sym c.in-Ok.ensures)

pub returns-in-Ok : goal.returns-in-Ok
unfolding part
returns-in-Ok c =
    let s = c.args.store.now in
    let hit = c.in-Ok.field-0 in
    ap (λ (n : ℕ). part s hit.at n) (add-sub_cancel_left hit.at hit.len) ∙ ap (lookup_part s) c.in-Ok.ensures
