-- `write::put_low` meets its contract: the value's low bytes over the part that is lent.
use Rattle.std.proofs.Common.{◌∙◌}
use Rattle.bits.specs.Bytes.{le}
use Rattle.bits.proofs.Bytes.{length-le, take-le, put_back, to_le_bytes_lem}
use Rattle.write.proofs.put_low.Goals as goal

pub returns : goal.returns
returns c =
    let a = c.args in
    put_back a.memory.now a.at a.n _ (le a.n a.value)
    (c.copy_from_slice.ensures.after ∙ rw (c.to_le_bytes-bytes.ensures, to_le_bytes_lem a.value) (take-le a.n 8 a.value c.requires.0))
    (length-le a.n a.value)
