-- The halfword and the word at an address of a memory, where all their bytes lie in it.
-- Assumes nothing.
use Rattle.std.specs.Prelude.{cond, List, ℕ, ◌-◌, length, Ok, Err}
use Rattle.block.specs.Memory.{spans}
use Rattle.bits.specs.Bytes.{halfword_at, word_at}
use Rattle.answer.specs.declared.Refusal.TheVariants.{OutsideMemory}
use Rattle.answer.specs.Answer.{Answer}

abbrev pub read_halfword : List ℕ → ℕ → ℕ → Answer ℕ
read_halfword memory base address = cond (spans (length memory) base address 2) (Ok (halfword_at memory (address - base))) (Err OutsideMemory)

abbrev pub read_word : List ℕ → ℕ → ℕ → Answer ℕ
read_word memory base address = cond (spans (length memory) base address 4) (Ok (word_at memory (address - base))) (Err OutsideMemory)
