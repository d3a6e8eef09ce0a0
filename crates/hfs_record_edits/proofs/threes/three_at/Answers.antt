-- The extents at three places.
use Rattle.hfs_record_edits.specs.Lengthened.{none}
use Rattle.hfs_record_edits.proofs.ThreeLemmas.{three-there}
use Rattle.hfs_record_edits.proofs.threes.three_at.Goals as goal

pub returns : goal.returns
returns c = three-there c.args.extents.now c.args.at none c.requires
