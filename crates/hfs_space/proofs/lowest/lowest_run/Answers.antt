-- The run that is long enough is the lowest one.
use Rattle.std.proofs.Common.{◌<◌, refl, arith, rules}
use Rattle.hfs_space.specs.Bitmap.{is_used}
use Rattle.hfs_space.proofs.LowestRuns.{lowest-is}
use Rattle.hfs_space.proofs.lowest.lowest_run.Goals as goal

pub returns-then-from-count : goal.returns-then-from-count
returns-then-from-count g c =
    let some : 0 < c.args.count = search rules in
    lowest-is (is_used (g.B.Blocks.blocks c.args.bitmap.now.blocks.now) c.args.bitmap.now.start) c.args.bitmap.now.count c.args.taken c.args.count c.walk_block-walked.result.end c.walk_block-walked.result.free _
    c.walk_block-walked.ensures.searched c.walk_block-walked.ensures.within (omega (arith, c.from.ensures, c.if-from-count.true)) some refl refl
