-- `store::put_header` meets its contract: the four numbers are the header's bytes.
use Rattle.std.proofs.Common.{◌∙◌}
use Rattle.store.proofs.Places.{header_made}
use Rattle.store.proofs.put_header.Goals as goal

pub returns : goal.returns
returns c =
    c.put_doubleword-4.ensures
    ∙ rw (c.put_doubleword-3.ensures, c.put_doubleword-2.ensures, c.put_doubleword.ensures)
    (header_made c.args.g c.args.store.now c.requires.1.0 c.requires.1.1 c.requires.0)
