-- When one op record is well formed: the rules about one op alone (docs/FORMATS.md, Well-formed records). A test of any sixteen bytes.
-- Assumes nothing.
use Rattle.std.specs.Prelude.{ℕ, ◌-◌, ◌^◌, Bool, ◌&&◌, ◌||◌, not, List, [], ◌∷◌, eqb, leb, get_or}
use Rattle.bits.specs.Bytes.{doubleword_at}
use Rattle.bits.specs.Match.{Row, ◌⇒◌, case}
use Rattle.op.specs.Record.{jal_number, jalr_number, fallback_number}
use Rattle.op.specs.declared.Limits.{Limits}

abbrev pub at_most : ℕ → ℕ → ℕ → ℕ → ℕ → Limits
at_most kind rd rs1 rs2 imm = record { kind = kind; rd = rd; rs1 = rs1; rs2 = rs2; imm = imm }

-- values of immediates aren't judged
abbrev pub any : ℕ
any = 2 ^ 64 - 1

-- the most that an op's kind, rd, rs1, rs2 and immediate may be, by its number: 31 for a register, and 0 for what the op lacks
abbrev pub limit_rows : List (Row Limits)
limit_rows =
    (0 ⇒ at_most 0 31 0 0 any)
    ∷ (1 ⇒ at_most 0 31 0 0 any)
    ∷ (2 ⇒ at_most 57 31 31 0 any)
    ∷ (3 ⇒ at_most 57 31 31 31 0)
    ∷ (4 ⇒ at_most 6 31 31 0 any)
    ∷ (5 ⇒ at_most 3 0 31 31 any)
    ∷ (6 ⇒ at_most 5 0 31 31 any)
    ∷ (jal_number ⇒ at_most 0 31 0 0 any)
    ∷ (jalr_number ⇒ at_most 0 31 31 0 any)
    ∷ []

unfoldable pub limits : ℕ → Limits
limits op = case op limit_rows (at_most 0 0 0 0 (2 ^ 32 - 1))

abbrev pub within : List ℕ → Limits → Bool
within o most =
    leb (get_or o 1 0) most.kind && leb (get_or o 2 0) most.rd && leb (get_or o 3 0) most.rs1 && leb (get_or o 4 0) most.rs2 && leb (doubleword_at o 8) most.imm

-- two bytes or four, and four for Fallback
abbrev pub ilen_known : ℕ → ℕ → Bool
ilen_known op ilen = eqb ilen 4 || (eqb ilen 2 && not (eqb op fallback_number))

unfoldable pub op_well_formed : List ℕ → Bool
op_well_formed o = leb (get_or o 0 0) fallback_number && ilen_known (get_or o 0 0) (get_or o 5 0) && within o (limits (get_or o 0 0))
