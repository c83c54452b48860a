-- `cache::make_new` meets its contract: the header, and then all else.
use Rattle.std.proofs.Common.{◌∙◌}
use Rattle.cache.proofs.Checks.{new_front}
use Rattle.cache.proofs.make_new.Goals as goal

pub returns : goal.returns
returns c = c.wipe.ensures ∙ rw (c.put_header.ensures, new_front)
