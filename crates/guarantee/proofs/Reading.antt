-- The Form call reads only its page, in every reading; and what it gives, an insertion accepts.
-- Assumes nothing.
use mathlib.Core.Path.{◌≡◌, sym, ap, ◌∙◌}
use mathlib.Core.Bool.{true}
use mathlib.Core.List.{List}
use Prim.Native.Nat.{ℕ, ◌*◌, ◌<◌}
use lib.ListN.{length, get_or}
use borrow.Author.Tests.{eq-eqb}
use Rattle.reading.specs.Readings.{reading_of}
use Rattle.block.specs.Memory.{in_memory, page_bytes}
use Rattle.block.specs.WellFormed.{well_formed}
use Rattle.block.proofs.Head.{says}
use Rattle.form.specs.Call.{form_call}
use Rattle.form.proofs.Judged.{formed-done}
use Rattle.form.proofs.Page.{same_page}
use Rattle.form.proofs.FormedWell.{reading_proper, formed_well}
use Rattle.store.specs.Layout.{stated, holds}
use Rattle.store.specs.Places.{record_in}
use Rattle.store.specs.declared.Geometry.{Geometry}
use Rattle.store.proofs.Known.{opened_says}
use Rattle.cache.specs.Calls.{lookup_call, insert_judged, insert_call}
use Rattle.history.specs.History.{Event}
use Rattle.guarantee.specs.Calls.{Call, Lent, run, looked_up}
use Rattle.guarantee.specs.Past.{Past, since, past_of}
use Rattle.guarantee.specs.Stands.{Follows}
use Rattle.guarantee.specs.Honest.{Local, forming, Fresh, Honest}
use Rattle.guarantee.specs.Answers.{answered}
use Rattle.guarantee.proofs.Run.{kept}
use Rattle.guarantee.proofs.Guarantee.{stands, insert_answers}
use Rattle.guarantee.proofs.Fresh.{never_stale}
use Rattle.answer.specs.Answer.{done, answer_number}
use Rattle.std.specs.Prelude.{Some, Ok}

form_local : (reading : ℕ) (lent m other : List ℕ) (base a : ℕ) → length m ≡ length other → page_bytes m base a ≡ page_bytes other base a → form_call reading m base a lent ≡ form_call reading other base a lent
unfolding form_call
form_local reading lent m other base a long same = rw (long, same_page (reading_of reading) m other base a same)

pub forming_local : (lent : List ℕ) → Local (forming lent)
forming_local lent g m other a long same = form_local _ lent m other g.base a long same

-- never stale, of the Form call itself, in the store's reading
pub never_stale_formed : (lent : List ℕ) (p : Past) (l : Lent) → Follows p l.store → Fresh (forming lent) p l.memory → (calls : List Call) → Honest (forming lent) p calls l → (g : Geometry) (h : List Event) → past_of p calls l ≡ since g h
    → (a : ℕ) → answer_number (lookup_call (run calls l).store a) ≡ 0 → form_call g.reading (run calls l).memory g.base a lent ≡ (Ok tt, record_in g (looked_up (run calls l) a))
never_stale_formed lent = never_stale (forming lent) (forming_local lent)

-- the premise can be met: from a memory of bytes, as long as the store says, Form gives what Insert accepts, in every reading and so in the store's own
module _ (reading : ℕ) (g : Geometry) (m : List ℕ) (byte : (i : ℕ) → get_or m i 0 < 256) (long : length m ≡ 4096 * g.pages) (a : ℕ) (lent rec : List ℕ) where
  taken : well_formed rec a ≡ true → in_memory (length m) g.base a ≡ true → insert_judged (Some g) a rec ≡ Ok g
  unfolding holds
  taken w able = rw (eq-eqb (length rec) 1040 (says w).0.long, ap (λ (n : ℕ). in_memory n g.base a) (sym long) ∙ able, w)

  pub formed-accepted : form_call reading m g.base a lent ≡ (done, rec) → insert_judged (Some g) a rec ≡ Ok g
  formed-accepted e =
      let f = formed-done a lent rec reading m g.base e in
      taken (ap (λ (r : List ℕ). well_formed r a) (sym f.2) ∙ formed_well (reading_of reading) (reading_proper reading) m g.base a byte f.0.good f.0.inner f.1) f.0.inner

-- so after any calls the block formed from the memory as it is, in the store's reading, goes in; and the reading is what the store's header says
module _ (p : Past) (l : Lent) (start : Follows p l.store) (calls : List Call) (g : Geometry) (h : List Event) (is : past_of p calls l ≡ since g h) where
  pub formed_inserts : ((i : ℕ) → get_or (run calls l).memory i 0 < 256) → length l.memory ≡ 4096 * g.pages → (a : ℕ) (lent rec : List ℕ) → forming lent g (run calls l).memory a ≡ (done, rec) → (insert_call (run calls l).store a rec).0 ≡ done
  formed_inserts byte long a lent rec e =
      insert_answers p l start calls g h is a rec
      ∙ ap answered (formed-accepted _ g (run calls l).memory byte ((kept p l start calls).roomy ∙ long) a lent rec e)

  pub reading_stated : (stated (run calls l).store).reading ≡ g.reading
  reading_stated = ap (λ (k : Geometry). k.reading) (opened_says (run calls l).store g (stands p l start calls g h is).sound).is
