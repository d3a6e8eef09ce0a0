use Rattle.hfs_model.proofs.ModelLawsProved.{enough_is_step}
use Rattle.hfs_model.proofs.model_laws.enough_is_step.Goals as goal

pub returns : goal.returns
returns c = enough_is_step
