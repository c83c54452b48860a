-- `store::open` meets its contract: each refusing return breaks one test.
use Rattle.std.proofs.Common.{◌≡◌, ℕ, ◌+◌, ◌*◌, Bool, sym, ap, ◌∙◌, arith}
use Rattle.bits.proofs.Tests.{true_false}
use Rattle.store.specs.Layout.{sized, store_len}
use Rattle.store.specs.declared.Geometry.{Geometry}
use Rattle.store.proofs.Known.{unread, unread_is, unread_says, opened-sound, opened-not, signature-is}
use Rattle.store.proofs.open.Goals as goal
use Rattle.std.specs.Prelude.{Some}

abbrev expected : Geometry → ℕ
expected g = 0x1_0043_4256 + g.e * 0x1_0000_0000_0000

abbrev within : Geometry → Bool
within g = sized g.e g.base g.pages

pub returns-then-store-lt-HEADER : goal.returns-then-store-lt-HEADER
returns-then-store-lt-HEADER c = sym (opened-not _ (λ h. omega (arith, h.long)))

pub returns-then-first-g : goal.returns-then-first-g
returns-then-first-g c =
    let told = c.stated-g.ensures in
    sym (opened-not _ (λ h.
    let test : unread c.first_number-first.result ≡ expected c.stated-g.result =
    ap unread (c.first_number-first.ensures ∙ h.signed.1 ∙ signature-is _ _) ∙ unread_is _ _ h.signed.0 ∙ ap expected (sym told.0) in
    omega (arith, told.1)))

pub returns-then-store-store_len : goal.returns-then-store-store_len
returns-then-store-store_len c =
    let same = c.stated-g.ensures.0 in
    let test : unread c.first_number-first.result ≡ expected c.stated-g.result = omega arith in
    ap Some same
    ∙ sym (opened-sound c.args.store.now (record {
      long = omega arith;
      signed = unread_says c.args.store.now (λ i. omega (arith, c.type_inv.store i)) (ap unread (sym c.first_number-first.ensures) ∙ test ∙ ap expected same);
      bounded = ap within (sym same) ∙ sym c.sized.ensures ∙ c.if-sized.true;
      exact = omega (arith, c.store_len.ensures ∙ ap store_len same);
    }))

pub returns-else-store-store_len : goal.returns-else-store-store_len
returns-else-store-store_len c =
    let same = c.stated-g.ensures.0 in
    sym (opened-not _ (λ h. omega (arith, h.exact ∙ ap store_len (sym same) ∙ sym c.store_len.ensures)))

pub returns-else-sized : goal.returns-else-sized
returns-else-sized c = sym (opened-not _ (λ h. true_false (c.sized.ensures ∙ ap within c.stated-g.ensures.0 ∙ h.bounded) c.if-sized.false))
