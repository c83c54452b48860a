-- The addresses of a page that a lookup hits, by the lookup's own definition.
-- Assumes nothing.
use Rattle.answer.specs.Answer.{answer_number}
use Rattle.std.specs.Prelude.{ℕ, ◌+◌, ◌*◌, ◌≡◌, true, cond, List, [], ◌∷◌, eqb}
use Rattle.bits.specs.Count.{count}
use Rattle.cache.specs.Calls.{lookup_call}
use Rattle.notices.specs.Pages.{names}
use Rattle.guarantee.specs.Past.{page_of}

-- how many there are
abbrev pub hits_in : List ℕ → ℕ → ℕ
hits_in s p = count 4096 (λ k. eqb (answer_number (lookup_call s (4096 * p + k))) 0)

-- and in the pages of a write from a to b, one or two
abbrev pub hits_across : List ℕ → ℕ → ℕ → ℕ
hits_across s a b = cond (eqb (page_of a) (page_of b)) (hits_in s (page_of a)) (hits_in s (page_of a) + hits_in s (page_of b))

-- and in the pages of a list of addresses, each page once
unfoldable pub hits_over : List ℕ → List ℕ → ℕ
hits_over s [] = 0
hits_over s (a ∷ rest) = cond (names rest (page_of a)) (hits_over s rest) (hits_in s (page_of a) + hits_over s rest)

-- that there is one
pub record HitIn (s : List ℕ) (p : ℕ) : Type 0 where
  pub address : ℕ
  pub in_page : page_of address ≡ p
  pub hits : answer_number (lookup_call s address) ≡ 0

-- and that there is one in the page of some address of a list
pub record HitOver (s list : List ℕ) : Type 0 where
  pub page : ℕ
  pub named : names list page ≡ true
  pub hit : HitIn s page
