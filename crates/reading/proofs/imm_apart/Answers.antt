-- `reading::imm_apart` meets its contract: each arm's key is an entry's, and the last arm's none's.
use Rattle.std.proofs.Common.{◌≡◌, ℕ, ◌+◌, ◌*◌, ◌<◌, refl, sym, ◌∙◌, arith}
use lib.Dec.{lit<}
use Rattle.bits.specs.Bits.{bits_at}
use Rattle.op.specs.declared.AluKind.TheVariants.{SextB, SextH, Rev8, OrcB}
use Rattle.word.specs.Word.{rust_word}
use Rattle.manual.specs.Words.{manual_word}
use Rattle.agree.specs.Differences.{amended, word_entries}
use Rattle.agree.proofs.Words.{manual-is}
use Rattle.reading.proofs.Parted.{unary_made, word_key, at_key, imm_alike}
use Rattle.reading.proofs.imm_apart.Goals as goal
use Rattle.op.specs.declared.Op.{Op}
use Rattle.std.specs.Prelude.{Option}

-- the fields of a word in an entry's arm
fields : (w funct3 : ℕ) → funct3 ≡ bits_at w 12 3 → bits_at w 2 5 ≡ 0x4 → (f3 top : ℕ) → top < 0x1000
    → word_key w funct3 (bits_at w 20 12) ≡ f3 * 0x10000 + top * 0x10 + 3
    → (bits_at w 0 7 ≡ 0x13) × (bits_at w 12 3 ≡ f3) × (bits_at w 20 12 ≡ top)
fields w funct3 is op = at_key 0x4 w funct3 (bits_at w 20 12) (bits_at w 20 12) is refl (omega arith) op

says : (w : ℕ) {d : Option Op} → amended word_entries rust_word w ≡ d → d ≡ manual_word w
says w e = sym e ∙ sym (manual-is w)

pub returns-in-90179 : goal.returns-in-90179
returns-in-90179 c =
    let w = c.args.inst.0 in
    let k = fields w c.funct3.result c.funct3.ensures c.requires 1 0x604 (lit< tt) (omega (arith, c.field-top.ensures, c.field-low.ensures, c.in-90179.is)) in
    unary_made SextB w _ _ c.rd-rd.ensures c.rs1-rs1.ensures (says w (rw (k.0, k.1, k.2) refl))

pub returns-in-90195 : goal.returns-in-90195
returns-in-90195 c =
    let w = c.args.inst.0 in
    let k = fields w c.funct3.result c.funct3.ensures c.requires 1 0x605 (lit< tt) (omega (arith, c.field-top.ensures, c.field-low.ensures, c.in-90195.is)) in
    unary_made SextH w _ _ c.rd-rd.ensures c.rs1-rs1.ensures (says w (rw (k.0, k.1, k.2) refl))

pub returns-in-92195 : goal.returns-in-92195
returns-in-92195 c =
    let w = c.args.inst.0 in
    let k = fields w c.funct3.result c.funct3.ensures c.requires 1 0x682 (lit< tt) (omega (arith, c.field-top.ensures, c.field-low.ensures, c.in-92195.is)) in
    says w (rw (k.0, k.1, k.2) refl)

pub returns-in-92227 : goal.returns-in-92227
returns-in-92227 c =
    let w = c.args.inst.0 in
    let k = fields w c.funct3.result c.funct3.ensures c.requires 1 0x684 (lit< tt) (omega (arith, c.field-top.ensures, c.field-low.ensures, c.in-92227.is)) in
    says w (rw (k.0, k.1, k.2) refl)

pub returns-in-338035 : goal.returns-in-338035
returns-in-338035 c =
    let w = c.args.inst.0 in
    let k = fields w c.funct3.result c.funct3.ensures c.requires 5 0x287 (lit< tt) (omega (arith, c.field-top.ensures, c.field-low.ensures, c.in-338035.is)) in
    unary_made OrcB w _ _ c.rd-rd.ensures c.rs1-rs1.ensures (says w (rw (k.0, k.1, k.2) refl))

pub returns-in-355203 : goal.returns-in-355203
returns-in-355203 c =
    let w = c.args.inst.0 in
    let k = fields w c.funct3.result c.funct3.ensures c.requires 5 0x6b8 (lit< tt) (omega (arith, c.field-top.ensures, c.field-low.ensures, c.in-355203.is)) in
    unary_made Rev8 w _ _ c.rd-rd.ensures c.rs1-rs1.ensures (says w (rw (k.0, k.1, k.2) refl))

pub returns-in-348275 : goal.returns-in-348275
returns-in-348275 c =
    let w = c.args.inst.0 in
    let k = fields w c.funct3.result c.funct3.ensures c.requires 5 0x507 (lit< tt) (omega (arith, c.field-top.ensures, c.field-low.ensures, c.in-348275.is)) in
    says w (rw (k.0, k.1, k.2) refl)

pub returns-in-382083 : goal.returns-in-382083
returns-in-382083 c =
    let w = c.args.inst.0 in
    let k = fields w c.funct3.result c.funct3.ensures c.requires 5 0xd48 (lit< tt) (omega (arith, c.field-top.ensures, c.field-low.ensures, c.in-382083.is)) in
    says w (rw (k.0, k.1, k.2) refl)

pub returns-in-382339 : goal.returns-in-382339
returns-in-382339 c =
    let w = c.args.inst.0 in
    let k = fields w c.funct3.result c.funct3.ensures c.requires 5 0xd58 (lit< tt) (omega (arith, c.field-top.ensures, c.field-low.ensures, c.in-382339.is)) in
    says w (rw (k.0, k.1, k.2) refl)

pub returns-in_default : goal.returns-in_default
returns-in_default c =
    imm_alike c.args.inst.0 c.funct3.result c.funct3.ensures c.requires
    (omega arith) (omega arith) (omega arith) (omega arith) (omega arith) (omega arith) (omega arith) (omega arith) (omega arith)
