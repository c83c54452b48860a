-- What the manual's prose says of each kind (RV64I, Zba, Zbb): a is rs1, b is rs2 or the immediate. Multiply and divide are left out.
-- Assumes nothing.
use Rattle.std.specs.Prelude.{ℕ, zero, suc, ◌+◌, ◌-◌, ◌*◌, ◌/◌, ◌%◌, ◌^◌, min, max, cond, ltb, eqb, ℤ, pos, negsuc, ◌+ℤ◌, ◌-ℤ◌}
use Rattle.std.proofs.Math.Option.{Option, none, some}
use Rattle.std.specs.Int.Signed.{lt_z}
use Rattle.bits.specs.Bits.{bit, bits_at, from_bits}
use Rattle.op.specs.declared.AluKind.{AluKind}
use Rattle.op.specs.declared.AluKind.TheVariants.{Add, Sub, Sll, Slt, Sltu, Xor, Srl, Sra, Or, And, Addw, Subw, Sllw, Srlw, Sraw, Mul, Mulh, Mulhsu, Mulhu, Div, Divu, Rem, Remu, Mulw, Divw, Divuw, Remw, Remuw, Andn, Orn, Xnor, Rol, Ror, Rolw, Rorw, Min, Max, Minu, Maxu, Clz, Ctz, Cpop, Clzw, Ctzw, Cpopw, SextB, SextH, ZextH, Rev8, OrcB, Sh1add, Sh2add, Sh3add, AddUw, Sh1addUw, Sh2addUw, Sh3addUw, SlliUw}

-- "the low XLEN bits of the result" of integer arithmetic; `negsuc v` is -(v + 1)
abbrev pub low64 : ℤ → ℕ
low64 (pos v) = v % 2 ^ 64
low64 (negsuc v) = 2 ^ 64 - 1 - v % 2 ^ 64

-- the low n bits "treated as a signed number": the top one weighs -2 ^ (n - 1)
abbrev pub value : ℕ → ℕ → ℤ
value n x = pos (x % 2 ^ (n - 1)) -ℤ pos (bit x (n - 1) * 2 ^ (n - 1))

-- "sign-extended" from n bits: 64 bits with the value of the low n
abbrev pub extended : ℕ → ℕ → ℕ
extended n x = low64 (value n x)

-- "zero-extended" from n bits
abbrev pub zeroed : ℕ → ℕ → ℕ
zeroed n x = from_bits 64 (λ i. cond (ltb i n) (bit x i) 0)

-- n bits shifted by s: "zeros are shifted into the lower bits"
abbrev pub left : ℕ → ℕ → ℕ → ℕ
left n x s = from_bits n (λ i. cond (ltb i s) 0 (bit x (i - s)))

-- "zeros are shifted into the upper bits"
abbrev pub right : ℕ → ℕ → ℕ → ℕ
right n x s = from_bits n (λ i. cond (ltb (s + i) n) (bit x (s + i)) 0)

-- "the original sign bit is copied into the vacated upper bits"
abbrev pub right_signed : ℕ → ℕ → ℕ → ℕ
right_signed n x s = from_bits n (λ i. bit x (min (s + i) (n - 1)))

-- n bits rotated by s
abbrev pub turned_left : ℕ → ℕ → ℕ → ℕ
turned_left n x s = from_bits n (λ i. bit x ((i + (n - s)) % n))

abbrev pub turned_right : ℕ → ℕ → ℕ → ℕ
turned_right n x s = from_bits n (λ i. bit x ((i + s) % n))

-- "the number of 0's before the first 1" among f 0, f 1, .. f (n - 1); n where there is no 1
unfoldable pub zeros : (ℕ → ℕ) → ℕ → ℕ
zeros f zero = 0
zeros f (suc n) = cond (eqb (f 0) 0) (suc (zeros (λ i. f (suc i)) n)) 0

-- "the number of 1's" in the low n bits
unfoldable pub set_bits : ℕ → ℕ → ℕ
set_bits zero x = 0
set_bits (suc n) x = bit x n + set_bits n x

abbrev pub manual_alu : AluKind → ℕ → ℕ → Option ℕ
manual_alu Add a b = some (low64 (pos a +ℤ pos b))
manual_alu Sub a b = some (low64 (pos a -ℤ pos b))
manual_alu Sll a b = some (left 64 a (b % 2 ^ 6))
manual_alu Slt a b = some (cond (lt_z (value 64 a) (value 64 b)) 1 0)
manual_alu Sltu a b = some (cond (ltb a b) 1 0)
manual_alu Xor a b = some (from_bits 64 (λ i. (bit a i + bit b i) % 2))
manual_alu Srl a b = some (right 64 a (b % 2 ^ 6))
manual_alu Sra a b = some (right_signed 64 a (b % 2 ^ 6))
manual_alu Or a b = some (from_bits 64 (λ i. max (bit a i) (bit b i)))
manual_alu And a b = some (from_bits 64 (λ i. min (bit a i) (bit b i)))
manual_alu Addw a b = some (extended 32 (low64 (pos a +ℤ pos b)))
manual_alu Subw a b = some (extended 32 (low64 (pos a -ℤ pos b)))
manual_alu Sllw a b = some (extended 32 (left 32 a (b % 2 ^ 5)))
manual_alu Srlw a b = some (extended 32 (right 32 a (b % 2 ^ 5)))
manual_alu Sraw a b = some (extended 32 (right_signed 32 a (b % 2 ^ 5)))
manual_alu Mul a b = none
manual_alu Mulh a b = none
manual_alu Mulhsu a b = none
manual_alu Mulhu a b = none
manual_alu Div a b = none
manual_alu Divu a b = none
manual_alu Rem a b = none
manual_alu Remu a b = none
manual_alu Mulw a b = none
manual_alu Divw a b = none
manual_alu Divuw a b = none
manual_alu Remw a b = none
manual_alu Remuw a b = none
manual_alu Andn a b = some (from_bits 64 (λ i. min (bit a i) (1 - bit b i)))
manual_alu Orn a b = some (from_bits 64 (λ i. max (bit a i) (1 - bit b i)))
manual_alu Xnor a b = some (from_bits 64 (λ i. 1 - (bit a i + bit b i) % 2))
manual_alu Rol a b = some (turned_left 64 a (b % 2 ^ 6))
manual_alu Ror a b = some (turned_right 64 a (b % 2 ^ 6))
manual_alu Rolw a b = some (extended 32 (turned_left 32 a (b % 2 ^ 5)))
manual_alu Rorw a b = some (extended 32 (turned_right 32 a (b % 2 ^ 5)))
manual_alu Min a b = some (cond (lt_z (value 64 a) (value 64 b)) a b)
manual_alu Max a b = some (cond (lt_z (value 64 a) (value 64 b)) b a)
manual_alu Minu a b = some (cond (ltb a b) a b)
manual_alu Maxu a b = some (cond (ltb a b) b a)
manual_alu Clz a b = some (zeros (λ i. bit a (63 - i)) 64)
manual_alu Ctz a b = some (zeros (bit a) 64)
manual_alu Cpop a b = some (set_bits 64 a)
manual_alu Clzw a b = some (zeros (λ i. bit a (31 - i)) 32)
manual_alu Ctzw a b = some (zeros (bit a) 32)
manual_alu Cpopw a b = some (set_bits 32 a)
manual_alu SextB a b = some (extended 8 a)
manual_alu SextH a b = some (extended 16 a)
manual_alu ZextH a b = some (zeroed 16 a)
manual_alu Rev8 a b = some (from_bits 64 (λ i. bit a (8 * (7 - i / 8) + i % 8)))
manual_alu OrcB a b = some (from_bits 64 (λ i. cond (eqb (bits_at a (8 * (i / 8)) 8) 0) 0 1))
manual_alu Sh1add a b = some (low64 (pos b +ℤ pos (left 64 a 1)))
manual_alu Sh2add a b = some (low64 (pos b +ℤ pos (left 64 a 2)))
manual_alu Sh3add a b = some (low64 (pos b +ℤ pos (left 64 a 3)))
manual_alu AddUw a b = some (low64 (pos b +ℤ pos (zeroed 32 a)))
manual_alu Sh1addUw a b = some (low64 (pos b +ℤ pos (left 64 (zeroed 32 a) 1)))
manual_alu Sh2addUw a b = some (low64 (pos b +ℤ pos (left 64 (zeroed 32 a) 2)))
manual_alu Sh3addUw a b = some (low64 (pos b +ℤ pos (left 64 (zeroed 32 a) 3)))
manual_alu SlliUw a b = some (left 64 (zeroed 32 a) (b % 2 ^ 6))
