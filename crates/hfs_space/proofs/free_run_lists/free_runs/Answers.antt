-- Where nothing is taken, the runs are those of all free blocks.
use Rattle.hfs_space.specs.Bitmap.{is_used}
use Rattle.hfs_space.proofs.Running.{all-same}
use Rattle.hfs_space.proofs.free_run_lists.free_runs.Goals as goal

pub returns : goal.returns
returns g c = all-same (is_used (g.B.Blocks.blocks c.args.bitmap.now.blocks.now) c.args.bitmap.now.start) c.args.bitmap.now.count _ c.in_ok-runs.ensures.runs
