-- A history: any calls with any arguments, on one store and one memory, each by its own definition.
-- Assumes nothing.
use Rattle.std.specs.Prelude.{ℕ, List, [], ◌∷◌, ◌++◌}
use Rattle.cache.specs.Answers.{lookup_part, nothing_done, reported}
use Rattle.cache.specs.Calls.{make_call, lookup_call, insert_call, notice_call, flush_call}
use Rattle.cache.specs.declared.Report.{Report}
use Rattle.notices.specs.Notices.{notices_call}
use Rattle.write.specs.Write.{write_call}
use Rattle.answer.specs.Answer.{Answer}

-- the calls that use a store
pub data Use : Type 0 where
  -- an address
  lookup : ℕ → Use
  -- an address and a record
  insert : ℕ → List ℕ → Use
  -- an address
  notice : ℕ → Use
  -- a list of addresses
  notices : List ℕ → Use
  flush : Use
  generation : Use
  -- an address, a size and a value
  write : ℕ → ℕ → ℕ → Use

pub data Call : Type 0 where
  -- reading, e, base, pages
  make : ℕ → ℕ → ℕ → ℕ → Call
  uses : Use → Call

-- the two lent buffers
pub record Lent : Type 0 where
  pub store : List ℕ
  pub memory : List ℕ

-- with another store
abbrev pub storing : Lent → List ℕ → Lent
storing l s = record { store = s; memory = l.memory }

abbrev pub wrote : Answer Report × List ℕ × List ℕ → Report × Lent
wrote r = (reported r.0, record { store = r.1; memory = r.2 })

-- what a call reports, and both buffers after it
unfoldable pub done : Use → Lent → Report × Lent
done (lookup a) l = (nothing_done, l)
done (insert a rec) l = (nothing_done, storing l (insert_call l.store a rec).1)
done (notice a) l = (reported (notice_call l.store a).0, storing l (notice_call l.store a).1)
done (notices list) l = (reported (notices_call l.store list).0, storing l (notices_call l.store list).1)
done flush l = (nothing_done, storing l (flush_call l.store).1)
done generation l = (nothing_done, l)
done (write a n v) l = wrote (write_call l.store l.memory a n v)

-- both after a list of calls, the newest first
unfoldable pub run : List Call → Lent → Lent
run [] l = l
run (make reading e base pages ∷ calls) l = storing (run calls l) (make_call reading e base pages (run calls l).store).1
run (uses c ∷ calls) l = (done c (run calls l)).1

-- a notice for each address of a list, as calls of their own, the newest first
unfoldable pub each_notice : List ℕ → List Call
each_notice [] = []
each_notice (a ∷ rest) = each_notice rest ++ uses (notice a) ∷ []

-- the part of the store that a lookup returns
abbrev pub looked_up : Lent → ℕ → List ℕ
looked_up l a = lookup_part l.store (lookup_call l.store a)
