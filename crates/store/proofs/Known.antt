-- What the header check tells of a store, and each of its tests in a record.
-- Assumes nothing.
use Rattle.std.proofs.Common.{◌≡◌, ℕ, suc, ◌+◌, ◌-◌, ◌*◌, ◌/◌, ◌%◌, ◌^◌, ◌<◌, ◌≤◌, Bool, true, false, cond, eqb, ltb, leb, List, length, get_or, sym, refl, ◌∙◌, subst, mod-lt, mul-le-mul, mul-le-mul_left, one-mul, mul-suc, arith, pow_pos, pow_mono, shl_exact, le-ltb, lt-ltb, eq-eqb, eqb-true, le-leb, leb-true}
use native.Mathlib.Decide.{dec_lt}
use Rattle.bits.specs.Bytes.{doubleword_at}
use Rattle.op.specs.Reading.{reading_known}
use Rattle.block.proofs.Places as block
use Rattle.bits.proofs.Tests.{and_both, not_true}
use Rattle.store.specs.Layout.{signature, sized, in_bounds, front, store_len, geometry, stated, is_store, opened, Bounded, Fitting, holds, memory_page, slot_of, place_at}
use Rattle.store.specs.declared.Geometry.{Geometry}
use Rattle.std.specs.Prelude.{Some, None}

-- a 1 shifted within the width
pub shl_one : (w e : ℕ) → e < w → (1 * 2 ^ e) % 2 ^ w ≡ 2 ^ e
shl_one w e h = shl_exact 1 e w (omega arith) (omega arith) ∙ one-mul (2 ^ e)

-- places of z bytes: those of a lower slot end before
pub after : (z i j : ℕ) → i < j → z * i + z ≤ z * j
after z i j h = let w : z * suc i ≤ z * j = mul-le-mul_left z h in omega (arith, rw mul-suc at w)

pub signature-is : (reading e : ℕ) → doubleword_at (signature reading e) 0 ≡ 0x1_0043_4256 + reading * 0x100_0000 + e * 0x1_0000_0000_0000
signature-is reading e = omega arith

-- the first eight bytes, in a known reading
abbrev pub Signed : List ℕ → Type 0
Signed s = (get_or s 3 0 ≤ 1) × (doubleword_at s 0 ≡ doubleword_at (signature (get_or s 3 0) (get_or s 6 0)) 0)

-- the header's first number without the lowest bit of byte 3: where that bit was the reading, no other is left of the byte
abbrev pub unread : ℕ → ℕ
unread first = first - first / 0x100_0000 % 2 * 0x100_0000

pub unread_is : (reading e : ℕ) → reading ≤ 1 → unread (0x1_0043_4256 + reading * 0x100_0000 + e * 0x1_0000_0000_0000) ≡ 0x1_0043_4256 + e * 0x1_0000_0000_0000
unread_is reading e h = omega arith

pub unread_says : (s : List ℕ) → ((i : ℕ) → get_or s i 0 ≤ 255) → unread (doubleword_at s 0) ≡ 0x1_0043_4256 + get_or s 6 0 * 0x1_0000_0000_0000
    → Signed s
unread_says s byte h =
    let known : get_or s 3 0 ≤ 1 = omega (arith, h, byte 0, byte 1, byte 2, byte 3, byte 4, byte 5, byte 6, byte 7) in
    (known, omega (arith, h, byte 0, byte 1, byte 2, byte 3, byte 4, byte 5, byte 6, byte 7))

pub sized_are : (reading e base pages : ℕ) → reading ≤ 1 → sized e base pages ≡ true → Bounded (geometry reading e base pages)
sized_are reading e base pages known h =
    let a = and_both (leb e 14) _ h in
    let memory = block.good_memory_lem {len = 4096 * pages} {base = base} a.1 in
    record {
      known = known;
      few = leb-true _ _ a.0;
      some = omega (arith, memory.least);
      most = omega (arith, memory.most);
      aligned = memory.based;
      below = memory.top;
      room = omega arith;
      small = omega arith;
    }

pub bounds_are : (reading e base pages : ℕ) → in_bounds reading e base pages ≡ true → Bounded (geometry reading e base pages)
bounds_are reading e base pages h = let a = and_both (reading_known reading) _ h in sized_are reading e base pages (leb-true _ _ a.0) a.1

-- the four tests of the header check
pub record Header (s : List ℕ) : Type 0 where
  pub long : 32 ≤ length s
  pub signed : Signed s
  pub bounded : sized (get_or s 6 0) (doubleword_at s 8) (doubleword_at s 16) ≡ true
  pub exact : length s ≡ store_len (stated s)

pub header_is : (s : List ℕ) → is_store s ≡ true → Header s
unfolding is_store
header_is s h =
    let a = and_both (leb 32 (length s)) _ h in
    let b = and_both (eqb (doubleword_at s 0) (doubleword_at (signature (get_or s 3 0) (get_or s 6 0)) 0)) _ a.1 in
    let c = and_both (in_bounds (get_or s 3 0) (get_or s 6 0) (doubleword_at s 8) (doubleword_at s 16)) _ b.1 in
    let d = and_both (reading_known (get_or s 3 0)) _ c.0 in
    record { long = leb-true _ _ a.0; signed = (leb-true _ _ d.0, eqb-true _ _ b.0); bounded = d.1; exact = eqb-true _ _ c.1 }

pub is-header : (s : List ℕ) → Header s → is_store s ≡ true
unfolding is_store
is-header s h = rw (le-leb 32 (length s) h.long, eq-eqb _ _ h.signed.1, le-leb (get_or s 3 0) 1 h.signed.0, h.bounded) (eq-eqb _ _ h.exact)

pub opened-sound : (s : List ℕ) → Header s → opened s ≡ Some (stated s)
unfolding opened
opened-sound s h = rw (is-header s h)

pub opened-not : (s : List ℕ) → (Header s → ⊥) → opened s ≡ None
unfolding opened
opened-not s f = rw (not_true (is_store s) (λ h. f (header_is s h)))

-- what a sound store's geometry says
pub record Known (s : List ℕ) (g : Geometry) : Type 0 where
  pub fitting : Fitting g s
  pub head : Header s
  pub is : stated s ≡ g

pub opened_says : (s : List ℕ) (g : Geometry) → opened s ≡ Some g → Known s g
unfolding opened
opened_says s g h = go (is_store s) refl h
  where
    go : (b : Bool) → is_store s ≡ b → cond b (Some (stated s)) None ≡ Some g → Known s g
    go true e k =
        let q : stated s ≡ g = cc in
        let w = header_is s e in
        subst (Known s) q (record { fitting = record { bounds = sized_are _ _ _ _ w.signed.0 w.bounded; exact = w.exact }; head = w; is = refl })
    go false e k = absurd (let z : ◌≡◌ {A = ℕ} 0 1 = cc in omega arith)

pub slot_lt : (g : Geometry) (a : ℕ) → slot_of g a < 2 ^ g.e
slot_lt g a = mod-lt (a / 2) (pow_pos g.e)

pub slots_le : (g : Geometry) → Bounded g → 2 ^ g.e ≤ 16384
slots_le g b = pow_mono b.few

-- a product with the stride stays small
pub stride_small : (g : Geometry) (i : ℕ) → Bounded g → i ≤ 2 ^ g.e → g.stride * i ≤ 67108864
stride_small g i b h =
    let w = slots_le g b in
    let n : i ≤ 16384 = omega arith in
    mul-le-mul {n₂ = 4096} {m₂ = 16384} b.small n

-- a place lies within the store, behind the bitmap
pub place_fits : (g : Geometry) (s : List ℕ) (i : ℕ) → Fitting g s → i < 2 ^ g.e → place_at g i + g.stride ≤ length s
place_fits g s i f h = let w = after g.stride i (2 ^ g.e) h in omega (arith, f.exact)

pub front_fits : (g : Geometry) (s : List ℕ) → Fitting g s → front g.pages ≤ length s
front_fits g s f = omega (arith, f.exact)

pub holds_are : (g : Geometry) (a : ℕ) → holds g a ≡ true → (g.base ≤ a) × (a < g.base + 4096 * g.pages)
unfolding holds
holds_are g a h = block.held (4096 * g.pages) g.base a h

pub are_held : (g : Geometry) (a : ℕ) → g.base ≤ a → a < g.base + 4096 * g.pages → holds g a ≡ true
unfolding holds
are_held g a l u = rw (le-leb g.base a l) (le-leb (a + 1) (g.base + 4096 * g.pages) (omega arith))

-- a difference that wraps below the base is no length of a memory
pub held_by : (g : Geometry) (a d : ℕ) → Bounded g → d < 2 ^ 64 → (d + g.base) % 2 ^ 64 ≡ a → ltb d (4096 * g.pages) ≡ holds g a
held_by g a d b small e = go (dec_lt d (4096 * g.pages))
  where
    go : Dec (d < 4096 * g.pages) → ltb d (4096 * g.pages) ≡ holds g a
    go (yes h) = lt-ltb d (4096 * g.pages) h ∙ sym (are_held g a (omega (arith, b.below)) (omega (arith, b.below)))
    go (no h) = le-ltb d (4096 * g.pages) (omega arith) ∙ sym (not_true (holds g a) (λ t. h (omega (arith, b.below, holds_are g a t))))

pub page-lt : (g : Geometry) (a : ℕ) → holds g a ≡ true → memory_page g a < g.pages
page-lt g a h = omega (arith, holds_are g a h)

pub bit-fits : (g : Geometry) (s : List ℕ) (p : ℕ) → Fitting g s → p < g.pages → 32 + p / 8 < front g.pages
bit-fits g s p f h = omega arith
