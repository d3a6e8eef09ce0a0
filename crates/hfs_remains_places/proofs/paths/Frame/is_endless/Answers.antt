use Rattle.std.proofs.Common.{false, arith}
use Rattle.hfs_remains_places.specs.Chains.{ups_of}
use Rattle.hfs_remains_places.proofs.ChainLemmas.{endless-at, length-ups}
use Rattle.hfs_remains_places.proofs.paths.Frame.is_endless.Goals as goal

pub returns : goal.returns
returns c =
    let s = c.args.self.now in
    endless-at (ups_of s.things.now) s.endless.now c.args.i false s.endless_are (omega (arith, length-ups s.things.now, c.requires))
