use Rattle.hfs_model.proofs.Leaves.{after_both}
use Rattle.hfs_model.proofs.model_laws.after_both.Goals as goal

pub returns : goal.returns
returns c = after_both
