use Rattle.hfs_runs.proofs.OnImage as on_image
use Rattle.hfs_runs.proofs.laws.saved_is_made.Goals as goal

pub returns : goal.returns
returns c = on_image.saved_is_made
