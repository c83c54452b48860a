-- A flush after a notice is the flush alone, on any bytes.
-- Assumes nothing.
use mathlib.Core.Path.{◌≡◌, refl, ap}
use mathlib.Core.List.{List, ◌++◌}
use Prim.Native.Nat.{ℕ}
use Rattle.store.specs.Places.{blank}
use Rattle.cache.specs.Calls.{notice_by, notice_call, flush_by, flush_call}
use Rattle.cache.proofs.Order.{on_any_bytes, notice-opened, head_noticed}
use Rattle.answer.specs.Answer.{done}

-- the answer and every byte
pub flush_after_notice : (s : List ℕ) (a : ℕ) → flush_call (notice_call s a).1 ≡ flush_call s
flush_after_notice s a =
    rw (notice-opened s a)
    (on_any_bytes s (λ o. flush_by o (notice_by o s a).1 ≡ flush_by o s) (λ g f. ap (λ (head : List ℕ). (done, head ++ blank g)) (head_noticed g s f a)) refl)
