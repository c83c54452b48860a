-- Examples from outside: what LLVM and binutils assemble is read as the instruction that they were given, and each result is the one that QEMU computes.
-- Assumes nothing.
use mathlib.Core.Path.{◌≡◌, refl}
use mathlib.Core.Option.{some}
use lib.IntN.{pos, negsuc}
use Rattle.bits.specs.Bits.{from_bits}
use Rattle.op.specs.declared.AluKind.TheVariants.{Sub, Slt, Sraw, Xnor, Ror, Rolw, Max, Minu, Ctz, Cpop, Clzw, SextB, SextH, ZextH, Rev8, OrcB, AddUw, Sh2add, Sh3addUw, SlliUw}
use Rattle.op.specs.declared.StoreKind.TheVariants.{Sd}
use Rattle.op.specs.declared.BranchKind.TheVariants.{Beq}
use Rattle.op.specs.declared.Op.TheVariants.{AluImm, AluReg, Store, Branch, Jalr}
use Rattle.manual.specs.Words.{format_by, manual_word}
use Rattle.manual.specs.Alu.{zeros, set_bits, manual_alu}
use Rattle.std.specs.Prelude.{Some}

-- the last three are beq a1, a2, -4; sd a2, -8(a1); jalr ra, -2(a0)
pub assembled : (manual_word 0x40c58533 ≡ Some (AluReg Sub 10 11 12))
    × (manual_word 0x0ac5e533 ≡ Some (AluReg Max 10 11 12))
    × (manual_word 0x0ac5d533 ≡ Some (AluReg Minu 10 11 12))
    × (manual_word 0x0805c53b ≡ Some (AluReg ZextH 10 11 0))
    × (manual_word 0x60451513 ≡ Some (AluImm SextB 10 10 (pos 0)))
    × (manual_word 0x60551513 ≡ Some (AluImm SextH 10 10 (pos 0)))
    × (manual_word 0x6b855513 ≡ Some (AluImm Rev8 10 10 (pos 0)))
    × (manual_word 0x28755513 ≡ Some (AluImm OrcB 10 10 (pos 0)))
    × (manual_word 0x6005951b ≡ Some (AluImm Clzw 10 11 (pos 0)))
    × (manual_word 0x0a15951b ≡ Some (AluImm SlliUw 10 11 (pos 33)))
    × (manual_word 0xfec58ee3 ≡ Some (Branch Beq 11 12 (negsuc 3)))
    × (manual_word 0xfec5bc23 ≡ Some (Store Sd 11 12 (negsuc 7)))
    × (manual_word 0xffe500e7 ≡ Some (Jalr 1 10 (negsuc 1)))
unfolding format_by
assembled = (refl, refl, refl, refl, refl, refl, refl, refl, refl, refl, refl, refl, refl)

pub computed : (manual_alu Sub 0 1 ≡ some 0xffff_ffff_ffff_ffff)
    × (manual_alu Slt 0xffff_ffff_ffff_ffff 0 ≡ some 1)
    × (manual_alu Sraw 0x8000_0000 4 ≡ some 0xffff_ffff_f800_0000)
    × (manual_alu Xnor 0xff 0xf0 ≡ some 0xffff_ffff_ffff_fff0)
    × (manual_alu Ror 1 4 ≡ some 0x1000_0000_0000_0000)
    × (manual_alu Rolw 0x8000_0001 1 ≡ some 3)
    × (manual_alu Max 0xffff_ffff_ffff_ffff 1 ≡ some 1)
    × (manual_alu Minu 0xffff_ffff_ffff_ffff 1 ≡ some 1)
    × (manual_alu Ctz 8 0 ≡ some 3)
    × (manual_alu Clzw 1 0 ≡ some 31)
    × (manual_alu Cpop 0xff 0 ≡ some 8)
    × (manual_alu SextB 0x80 0 ≡ some 0xffff_ffff_ffff_ff80)
    × (manual_alu ZextH 0x1_2345 0 ≡ some 0x2345)
    × (manual_alu Rev8 0x0102_0304_0506_0708 0 ≡ some 0x0807_0605_0403_0201)
    × (manual_alu OrcB 0x0100_0000_0000_8000 0 ≡ some 0xff00_0000_0000_ff00)
    × (manual_alu AddUw 0xffff_ffff_ffff_ffff 1 ≡ some 0x1_0000_0000)
    × (manual_alu Sh2add 3 5 ≡ some 17)
    × (manual_alu Sh3addUw 0xffff_ffff_ffff_ffff 0 ≡ some 0x7_ffff_fff8)
unfolding zeros set_bits from_bits
computed = (refl, refl, refl, refl, refl, refl, refl, refl, refl, refl, refl, refl, refl, refl, refl, refl, refl, refl)
