-- The lowest run that is long enough has them all.
use Rattle.hfs_space.specs.Bitmap.{is_used}
use Rattle.hfs_space.proofs.LowestRuns.{beside-one}
use Rattle.hfs_space.proofs.choosing.pieces_beside.Goals as goal

pub returns-in-Some : goal.returns-in-Some
returns-in-Some g c =
    beside-one (is_used (g.B.Blocks.blocks c.args.bitmap.now.blocks.now) c.args.bitmap.now.start) c.args.bitmap.now.count c.args.row c.args.count c.in-Some.lowest c.in_ok-pieces.pieces.items c.in-Some.ensures
    c.in_ok-pieces.ensures
