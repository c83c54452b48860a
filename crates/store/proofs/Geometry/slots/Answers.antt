-- `store::Geometry::slots` meets its contract: a 1 that is shifted within the width.
use Rattle.std.proofs.Common.{refl, arith}
use Rattle.std.proofs.Math.Pow.{pow_pos, pow_mono}
use Rattle.store.proofs.Known.{shl_one}
use Rattle.store.proofs.Geometry.slots.Goals as goal

pub returns : goal.returns
returns c = rw (shl_one 64 c.args.self.e (let h = c.requires in omega arith)) (refl, (pow_pos c.args.self.e, pow_mono c.requires))
