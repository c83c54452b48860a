-- `reading::reg_apart` meets its contract: each arm's key is an entry's, and the last arm's none's.
use Rattle.std.proofs.Common.{refl, sym, ◌∙◌, arith}
use lib.Dec.{lit<}
use Rattle.op.specs.declared.AluKind.TheVariants.{Max, Minu}
use Rattle.bits.specs.Bits.{bits_at}
use Rattle.agree.proofs.Words.{manual-is}
use Rattle.reading.proofs.Parted.{binary_made, at_key, reg_alike}
use Rattle.reading.proofs.reg_apart.Goals as goal

pub returns-in-327763 : goal.returns-in-327763
returns-in-327763 c =
    let w = c.args.inst.0 in
    let k = at_key 0xc w c.funct3.result c.funct7.result (bits_at w 25 7) c.funct3.ensures c.funct7.ensures (omega arith) c.requires 5 5 (lit< tt) (omega (arith, c.field-low.ensures, c.in-327763.is)) in
    binary_made Minu w _ _ _ c.rd-rd.ensures c.rs1-rs1.ensures c.rs2-rs2.ensures (sym (manual-is w ∙ rw (k.0, k.1, k.2) refl))

pub returns-in-393299 : goal.returns-in-393299
returns-in-393299 c =
    let w = c.args.inst.0 in
    let k = at_key 0xc w c.funct3.result c.funct7.result (bits_at w 25 7) c.funct3.ensures c.funct7.ensures (omega arith) c.requires 6 5 (lit< tt) (omega (arith, c.field-low.ensures, c.in-393299.is)) in
    binary_made Max w _ _ _ c.rd-rd.ensures c.rs1-rs1.ensures c.rs2-rs2.ensures (sym (manual-is w ∙ rw (k.0, k.1, k.2) refl))

pub returns-in_default : goal.returns-in_default
returns-in_default c = reg_alike c.args.inst.0 c.funct3.result c.funct7.result c.funct3.ensures c.funct7.ensures c.requires (omega arith) (omega arith)
