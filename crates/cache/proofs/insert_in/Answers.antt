-- `cache::insert_in` meets its contract: the bit, the generation, and the place that is lent.
use Rattle.std.proofs.Common.{◌∙◌, ◌+◌, ◌≤◌, length, arith}
use native.Mathlib.Nat.{add-sub_cancel_left}
use Rattle.bits.specs.Bytes.{part}
use Rattle.bits.proofs.Bytes.{put_back, length_part}
use Rattle.store.specs.Places.{place_for}
use Rattle.cache.specs.Calls.{inserted_in}
use Rattle.cache.proofs.Checks.{slot_fits}
use Rattle.cache.proofs.insert_in.Goals as goal

pub write_record-requires : goal.write_record-requires
unfolding place_for part
write_record-requires c =
    let g = c.args.g in
    let at = c.place-at.result in
    let w = slot_fits g c.args.store.now c.args.address c.requires.0 in
    let fits : at + g.stride ≤ length c.bump.new.store = omega (arith, w, c.place-at.ensures) in
    rw add-sub_cancel_left (length_part c.bump.new.store at g.stride fits ∙ omega (arith, c.requires.1.1))

pub returns : goal.returns
unfolding inserted_in place_for
returns c =
    put_back c.bump.new.store c.place-at.result c.args.g.stride _ c.args.«record».now c.write_record.ensures c.requires.1.1
    ∙ rw (c.bump.ensures, c.set_bit.ensures, c.memory_page.ensures.0, c.place-at.ensures)
