-- `bits::put_doubleword` meets its contract: the part that was lent comes back as the number's bytes.
use Rattle.std.proofs.Common.{◌∙◌}
use Rattle.bits.specs.Bytes.{le}
use Rattle.bits.proofs.Bytes.{put_back, length-le, to_le_bytes_lem}
use Rattle.bits.proofs.put_doubleword.Goals as goal

pub returns : goal.returns
returns c =
    let a = c.args in
    put_back a.s.now a.at 8 _ (le 8 a.x) (c.copy_from_slice.ensures.after ∙ c.to_le_bytes.ensures ∙ to_le_bytes_lem a.x) (length-le 8 a.x)
