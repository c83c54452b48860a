-- `alu` of block.rs, arm by arm in its order. Multiply and divide are not taken.
-- Assumes nothing.
use Rattle.std.specs.Prelude.{ℕ, zero, suc, ◌+◌, ◌-◌, ◌*◌, ◌/◌, ◌%◌, ◌^◌, min, max, Bool, cond, ◌==◌, bit_and, bit_or, bit_xor, count_ones, int_lt, nat_lt, Ok, Err}
use Rattle.std.specs.Int.Count.{count_leading_zeros, count_trailing_zeros}
use Rattle.std.specs.Int.Signed.{shr_z}
use Rattle.answer.specs.declared.Refusal.TheVariants.{NoKind}
use Rattle.answer.specs.Answer.{Answer}
use Rattle.bits.specs.Bits.{bits_at, signed}
use Rattle.op.specs.Record.{bits64}
use Rattle.op.specs.declared.AluKind.{AluKind}
use Rattle.op.specs.declared.AluKind.TheVariants.{Add, Sub, Sll, Slt, Sltu, Xor, Srl, Sra, Or, And, Addw, Subw, Sllw, Srlw, Sraw, Mul, Mulh, Mulhsu, Mulhu, Div, Divu, Rem, Remu, Mulw, Divw, Divuw, Remw, Remuw, Andn, Orn, Xnor, Rol, Ror, Rolw, Rorw, Min, Max, Minu, Maxu, Clz, Ctz, Cpop, Clzw, Ctzw, Cpopw, SextB, SextH, ZextH, Rev8, OrcB, Sh1add, Sh2add, Sh3add, AddUw, Sh1addUw, Sh2addUw, Sh3addUw, SlliUw}

-- `x as u32`
abbrev pub as_u32 : ℕ → ℕ
as_u32 x = x % 2 ^ 32

-- `x as iN as i64 as u64` of n bits
abbrev pub widen : ℕ → ℕ → ℕ
widen n x = bits64 (signed n x)

-- `!x`
abbrev pub not64 : ℕ → ℕ
not64 x = (2 ^ 64 - 1) - x

-- `x << k`
abbrev pub shl : ℕ → ℕ → ℕ
shl x k = (x * 2 ^ k) % 2 ^ 64

-- `x.wrapping_sub(y)` at n bits
abbrev pub minus : ℕ → ℕ → ℕ → ℕ
minus n x y = (x + (2 ^ n - y)) % 2 ^ n

-- `(x as i64) < (y as i64)`
abbrev pub less : ℕ → ℕ → Bool
less x y = int_lt (signed 64 x) (signed 64 y)

-- `x.rotate_left(s)` at n bits; to the right by s is to the left by n - s
abbrev pub rotl : ℕ → ℕ → ℕ → ℕ
rotl n x s = (x * 2 ^ s) % 2 ^ n + x / 2 ^ (n - s)

-- the n low bytes of x, the lowest now on top; `x.swap_bytes()` at n = 8
unfoldable pub swapped : ℕ → ℕ → ℕ
swapped x zero = 0
swapped x (suc n) = swapped x n * 2 ^ 8 + bits_at x (n * 8) 8

-- `if byte != 0 { 0xFF } else { 0x00 }`
abbrev pub spread : ℕ → ℕ
spread byte = cond (byte == 0) 0x00 0xff

-- the loop of OrcB after n turns
unfoldable pub orced : ℕ → ℕ → ℕ
orced x zero = 0
orced x (suc n) = spread (bits_at x (n * 8) 8) * 2 ^ (n * 8) + orced x n

abbrev pub rust_alu : AluKind → ℕ → ℕ → Answer ℕ
rust_alu Add a b = Ok ((a + b) % 2 ^ 64)
rust_alu Sub a b = Ok (minus 64 a b)
rust_alu Sll a b = Ok (shl a (bit_and b 0x3f))
rust_alu Slt a b = Ok (cond (less a b) 1 0)
rust_alu Sltu a b = Ok (cond (nat_lt a b) 1 0)
rust_alu Xor a b = Ok (bit_xor a b)
rust_alu Srl a b = Ok (a / 2 ^ bit_and b 0x3f)
rust_alu Sra a b = Ok (bits64 (shr_z (signed 64 a) (2 ^ bit_and b 0x3f)))
rust_alu Or a b = Ok (bit_or a b)
rust_alu And a b = Ok (bit_and a b)
rust_alu Addw a b = Ok (widen 32 ((as_u32 a + as_u32 b) % 2 ^ 32))
rust_alu Subw a b = Ok (widen 32 (minus 32 (as_u32 a) (as_u32 b)))
rust_alu Sllw a b = Ok (widen 32 ((as_u32 a * 2 ^ bit_and b 0x1f) % 2 ^ 32))
rust_alu Srlw a b = Ok (widen 32 (as_u32 a / 2 ^ bit_and b 0x1f))
rust_alu Sraw a b = Ok (bits64 (shr_z (signed 32 (as_u32 a)) (2 ^ bit_and b 0x1f)))
rust_alu Mul a b = Err NoKind
rust_alu Mulh a b = Err NoKind
rust_alu Mulhsu a b = Err NoKind
rust_alu Mulhu a b = Err NoKind
rust_alu Div a b = Err NoKind
rust_alu Divu a b = Err NoKind
rust_alu Rem a b = Err NoKind
rust_alu Remu a b = Err NoKind
rust_alu Mulw a b = Err NoKind
rust_alu Divw a b = Err NoKind
rust_alu Divuw a b = Err NoKind
rust_alu Remw a b = Err NoKind
rust_alu Remuw a b = Err NoKind
rust_alu Andn a b = Ok (bit_and a (not64 b))
rust_alu Orn a b = Ok (bit_or a (not64 b))
rust_alu Xnor a b = Ok (bit_xor a (not64 b))
rust_alu Rol a b = Ok (rotl 64 a (bit_and b 0x3f))
rust_alu Ror a b = Ok (rotl 64 a (64 - bit_and b 0x3f))
rust_alu Rolw a b = Ok (widen 32 (rotl 32 (as_u32 a) (bit_and b 0x1f)))
rust_alu Rorw a b = Ok (widen 32 (rotl 32 (as_u32 a) (32 - bit_and b 0x1f)))
rust_alu Min a b = Ok (cond (less a b) a b)
rust_alu Max a b = Ok (cond (less b a) a b)
rust_alu Minu a b = Ok (min a b)
rust_alu Maxu a b = Ok (max a b)
rust_alu Clz a b = Ok (count_leading_zeros 64 a)
rust_alu Ctz a b = Ok (count_trailing_zeros 64 a)
rust_alu Cpop a b = Ok (count_ones a)
rust_alu Clzw a b = Ok (count_leading_zeros 32 (as_u32 a))
rust_alu Ctzw a b = Ok (count_trailing_zeros 32 (as_u32 a))
rust_alu Cpopw a b = Ok (count_ones (as_u32 a))
rust_alu SextB a b = Ok (widen 8 (a % 2 ^ 8))
rust_alu SextH a b = Ok (widen 16 (a % 2 ^ 16))
rust_alu ZextH a b = Ok (a % 2 ^ 16)
rust_alu Rev8 a b = Ok (swapped a 8)
rust_alu Sh1add a b = Ok ((shl a 1 + b) % 2 ^ 64)
rust_alu Sh2add a b = Ok ((shl a 2 + b) % 2 ^ 64)
rust_alu Sh3add a b = Ok ((shl a 3 + b) % 2 ^ 64)
rust_alu AddUw a b = Ok ((as_u32 a + b) % 2 ^ 64)
rust_alu Sh1addUw a b = Ok ((shl (as_u32 a) 1 + b) % 2 ^ 64)
rust_alu Sh2addUw a b = Ok ((shl (as_u32 a) 2 + b) % 2 ^ 64)
rust_alu Sh3addUw a b = Ok ((shl (as_u32 a) 3 + b) % 2 ^ 64)
rust_alu SlliUw a b = Ok (shl (as_u32 a) (bit_and b 0x3f))
rust_alu OrcB a b = Ok (orced a 8)
