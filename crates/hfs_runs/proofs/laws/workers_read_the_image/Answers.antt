use Rattle.hfs_runs.proofs.OnImage as on_image
use Rattle.hfs_runs.proofs.laws.workers_read_the_image.Goals as goal

pub returns : goal.returns
returns c = on_image.workers_read_the_image
