use Rattle.hfs_model.proofs.ModelLawsProved.{counts_children}
use Rattle.hfs_model.proofs.model_laws.counts_children.Goals as goal

pub returns : goal.returns
returns c = counts_children
