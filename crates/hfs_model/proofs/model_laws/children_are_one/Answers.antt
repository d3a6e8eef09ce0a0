use Rattle.hfs_model.proofs.ModelLawsProved.{children_are_one}
use Rattle.hfs_model.proofs.model_laws.children_are_one.Goals as goal

pub returns : goal.returns
returns c = children_are_one
