-- An op whose registers are at most 31 has a well-formed record. What the decoders give is such an op.
-- Assumes nothing.
use mathlib.Core.Path.{◌≡◌, refl}
use mathlib.Core.Bool.{true}
use mathlib.Core.List.{List, []}
use Prim.Native.Nat.{ℕ, suc, ◌-◌, ◌%◌, ◌^◌, ◌<◌}
use native.Mathlib.Omega.{arith}
use native.Mathlib.Nat.{mod-eq_of_lt}
use lib.Dec.{leb}
use lib.ListN.{length}
use borrow.Author.Tests.{le-leb}
use Rattle.bits.specs.Bytes.{le, doubleword_at}
use Rattle.bits.proofs.Bytes.{doubleword_le}
use Rattle.op.specs.Kinds.{Positions}
use Rattle.op.specs.Proper.{Proper}
use Rattle.op.specs.Record.{bits64, op_fields, op_record}
use Rattle.op.specs.WellFormed.{any, limits, ilen_known, op_well_formed}
use Rattle.op.specs.declared.Op.{Op}
use Rattle.op.specs.declared.Op.TheVariants.{Lui, Auipc, AluImm, AluReg, Load, Store, Branch, Jal, Jalr, Fallback}
use Rattle.op.proofs.Numbers.{alu_positions, load_positions, store_positions, branch_positions}

-- a kind's number is at most the last position
known : {A : Type 0} {kinds : List A} {number : A → ℕ} → Positions kinds number → (most : ℕ) → length kinds ≡ suc most → (k : A) → leb (number k) most ≡ true
known p most e k = le-leb _ most (omega (arith, p.below k))

imm-any : (x : ℕ) → leb (doubleword_at (le 8 x) 0) any ≡ true
unfolding le
imm-any x = rw (doubleword_le x []) (le-leb (x % 2 ^ 64) any (omega arith))

raw_word : (x : ℕ) → x < 2 ^ 32 → leb (doubleword_at (le 8 x) 0) (2 ^ 32 - 1) ≡ true
unfolding le
raw_word x h = let e : x % 2 ^ 64 ≡ x = mod-eq_of_lt (omega arith) in rw (doubleword_le x [], e) (le-leb x (2 ^ 32 - 1) (omega arith))

pub proper_well : (op : Op) (ilen off : ℕ) → Proper op → ilen_known (op_fields op).op ilen ≡ true → op_well_formed (op_record op ilen off) ≡ true
unfolding op_well_formed limits le
proper_well (Lui rd imm) ilen off p i = simp (i, le-leb _ _ p.0, imm-any (bits64 imm))
proper_well (Auipc rd imm) ilen off p i = simp (i, le-leb _ _ p.0, imm-any (bits64 imm))
proper_well (AluImm kind rd rs1 imm) ilen off p i = simp (i, known alu_positions 57 refl kind, le-leb _ _ p.0, le-leb _ _ p.1, imm-any (bits64 imm))
proper_well (AluReg kind rd rs1 rs2) ilen off p i = simp (i, known alu_positions 57 refl kind, le-leb _ _ p.0, le-leb _ _ p.1, le-leb _ _ p.2)
proper_well (Load kind rd rs1 imm) ilen off p i = simp (i, known load_positions 6 refl kind, le-leb _ _ p.0, le-leb _ _ p.1, imm-any (bits64 imm))
proper_well (Store kind rs1 rs2 imm) ilen off p i = simp (i, known store_positions 3 refl kind, le-leb _ _ p.1, le-leb _ _ p.2, imm-any (bits64 imm))
proper_well (Branch kind rs1 rs2 offset) ilen off p i = simp (i, known branch_positions 5 refl kind, le-leb _ _ p.1, le-leb _ _ p.2, imm-any (bits64 offset))
proper_well (Jal rd offset) ilen off p i = simp (i, le-leb _ _ p.0, imm-any (bits64 offset))
proper_well (Jalr rd rs1 imm) ilen off p i = simp (i, le-leb _ _ p.0, le-leb _ _ p.1, imm-any (bits64 imm))
proper_well (Fallback raw) ilen off p i = simp (i, raw_word raw p.3)
