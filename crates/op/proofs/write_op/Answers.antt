-- `op::write_op` meets its contract: the part that was lent comes back as the record.
use mathlib.Core.Path.{ap, ◌∙◌}
use Rattle.bits.proofs.Bytes.{put_back}
use Rattle.op.specs.Record.{op_bytes, op_record}
use Rattle.op.specs.declared.OpRecord.{OpRecord}
use Rattle.op.proofs.Record.{length_record}
use Rattle.op.proofs.write_op.Goals as goal

pub returns : goal.returns
returns c =
    let a = c.args in
    put_back a.out.now a.at 16 _ (op_record a.op a.ilen a.off)
    (c.copy_from_slice.ensures.after ∙ c.bytes.ensures ∙ ap (λ (f : OpRecord). op_bytes f a.ilen a.off) c.fields_of.ensures)
    (length_record a.op a.ilen a.off)
