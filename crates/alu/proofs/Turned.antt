-- The library's rotations and its swap of bytes are those of the Rust reading.
-- Assumes nothing.
use Rattle.std.proofs.Common.{◌≡◌, ℕ, zero, suc, ◌-◌, ◌*◌, ◌/◌, ◌%◌, ◌^◌, ◌<◌, sym, ap, ap₂, ◌∙◌, arith}
use native.Mathlib.Nat.{mod-eq_of_lt, mod_self, sub-zero, mul-one, div-one}
use lib.Bits.{bit_or, or_self}
use Rattle.std.specs.Int.{w64, swap_bytes}
use Rattle.std.proofs.lemmas.Nat.{or_comm}
use Rattle.bits.proofs.Shift.{turned_or, turned_still}
use Rattle.alu.specs.Rust.{rotl, swapped}

-- by no place
still : (n x : ℕ) → x < 2 ^ n → bit_or ((x * 2 ^ 0) % 2 ^ n) (x / 2 ^ 0) ≡ x
still n x h = ap₂ bit_or (ap (λ (y : ℕ). y % 2 ^ n) (mul-one x) ∙ mod-eq_of_lt h) (div-one x) ∙ or_self x

pub left_turned : (n x s : ℕ) → s < n → x < 2 ^ n → bit_or ((x * 2 ^ (s % n)) % 2 ^ n) (x / 2 ^ ((n - s % n) % n)) ≡ rotl n x s
left_turned n x zero h b =
    let none : 0 % n ≡ 0 = mod-eq_of_lt h in
    let whole : (n - 0) % n ≡ 0 = ap (λ (m : ℕ). m % n) (sub-zero n) ∙ mod_self n in
    rw (none, whole) (still n x b ∙ turned_still n x 0 (omega arith) b none)
left_turned n x (suc k) h b =
    let same : suc k % n ≡ suc k = mod-eq_of_lt h in
    let rest : (n - suc k) % n ≡ n - suc k = mod-eq_of_lt (omega arith) in
    rw (same, rest) (turned_or n x (suc k) (omega arith) b)

pub right_turned : (n x s : ℕ) → s < n → x < 2 ^ n → bit_or (x / 2 ^ (s % n)) ((x * 2 ^ ((n - s % n) % n)) % 2 ^ n) ≡ rotl n x (n - s)
right_turned n x zero h b =
    let none : 0 % n ≡ 0 = mod-eq_of_lt h in
    let whole : (n - 0) % n ≡ 0 = ap (λ (m : ℕ). m % n) (sub-zero n) ∙ mod_self n in
    rw (none, whole) (or_comm (x / 2 ^ 0) ((x * 2 ^ 0) % 2 ^ n) ∙ still n x b ∙ turned_still n x (n - 0) (omega arith) b whole)
right_turned n x (suc k) h b =
    let same : suc k % n ≡ suc k = mod-eq_of_lt h in
    let rest : (n - suc k) % n ≡ n - suc k = mod-eq_of_lt (omega arith) in
    let back : n - (n - suc k) ≡ suc k = omega arith in
    rw (same, rest) (or_comm (x / 2 ^ suc k) ((x * 2 ^ (n - suc k)) % 2 ^ n) ∙ ap (λ (m : ℕ). bit_or ((x * 2 ^ (n - suc k)) % 2 ^ n) (x / 2 ^ m)) (sym back) ∙ turned_or n x (n - suc k) (omega arith) b)

pub swapped_is : (x : ℕ) → swap_bytes w64 x ≡ swapped x 8
unfolding swapped
swapped_is x = omega arith
