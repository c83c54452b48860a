-- `bits::word_at` meets its contract: the library reads the same bytes.
use Rattle.std.proofs.Common.{◌∙◌, ap}
use Rattle.std.specs.Int.{w32, from_le_bytes}
use Rattle.bits.proofs.Bytes.{word_of_part}
use Rattle.bits.proofs.word_at.Goals as goal

pub returns : goal.returns
returns c = c.from_le_bytes.ensures ∙ ap (from_le_bytes w32) c.bytes_at.ensures ∙ word_of_part c.args.s.now c.args.at
