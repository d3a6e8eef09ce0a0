use Rattle.hfs_model.proofs.ModelLawsProved.{reading_leaves}
use Rattle.hfs_model.proofs.model_laws.reading_leaves.Goals as goal

pub returns : goal.returns
returns c = reading_leaves
