-- The values marked P (docs/FORMATS.md, Values): a question and its answer in each row, of words and halfwords in either reading.
-- Assumes nothing.
use Rattle.std.specs.Prelude.{ℕ, List, [], ◌∷◌, pos, negsuc, Option, Some, None, Ok}
use Rattle.op.specs.declared.Op.TheVariants.{AluImm, AluReg, Jalr}
use Rattle.op.specs.declared.AluKind.{AluKind}
use Rattle.op.specs.declared.AluKind.TheVariants.{Add, SextB, Rev8, OrcB, Max, Minu, Sra, Addw, Clz, Clzw}
use Rattle.op.specs.Reading.{Reading}
use Rattle.reading.specs.Readings.{rust, manual}
use Rattle.alu.specs.Rust.{rust_alu}
use Rattle.answer.specs.Answer.{Answer}
use Rattle.op.specs.declared.Op.{Op}

pub data Question : Type 0 where
  halfword word : Reading → ℕ → Question
  alu : AluKind → ℕ → ℕ → Question

pub data Reply : Type 0 where
  reads : Option Op → Reply
  computes : Answer ℕ → Reply

pub data Line : Type 0 where
  ◌is◌ : Question → Reply → Line

infix 5 ◌is◌
abbrev pub given : Line → Reply
given (halfword reading h is a) = reads (reading.of_half h)
given (word reading w is a) = reads (reading.of_word w)
given (alu kind a b is c) = computes (rust_alu kind a b)

abbrev pub expected : Line → Reply
expected (q is a) = a

abbrev pub values : List Line
values =
    (halfword rust 0x0000 is reads None)
    ∷ (halfword rust 0x9002 is reads None)
    ∷ (halfword rust 0x8082 is reads (Some (Jalr 0 1 (pos 0))))
    ∷ (word rust 0x00100513 is reads (Some (AluImm Add 10 0 (pos 1))))
    ∷ (word rust 0xfff00513 is reads (Some (AluImm Add 10 0 (negsuc 0))))
    ∷ (word rust 0x68251513 is reads (Some (AluImm SextB 10 10 (pos 0))))
    ∷ (word rust 0x60451513 is reads None)
    ∷ (word rust 0x6b855513 is reads None)
    ∷ (word rust 0x28755513 is reads None)
    ∷ (word rust 0x0ac5d533 is reads (Some (AluReg Max 10 11 12)))
    ∷ (word manual 0x68251513 is reads None)
    ∷ (word manual 0x60451513 is reads (Some (AluImm SextB 10 10 (pos 0))))
    ∷ (word manual 0x6b855513 is reads (Some (AluImm Rev8 10 10 (pos 0))))
    ∷ (word manual 0x28755513 is reads (Some (AluImm OrcB 10 10 (pos 0))))
    ∷ (word manual 0x0ac5d533 is reads (Some (AluReg Minu 10 11 12)))
    ∷ (halfword manual 0x4002 is reads None)
    ∷ (alu Sra 0x8000_0000_0000_0000 1 is computes (Ok 0xc000_0000_0000_0000))
    ∷ (alu Addw 0x7fff_ffff 1 is computes (Ok 0xffff_ffff_8000_0000))
    ∷ (alu Clz 0 0 is computes (Ok 64))
    ∷ (alu Clzw 0 0 is computes (Ok 32))
    ∷ []
