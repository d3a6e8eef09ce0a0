use Rattle.hfs_model.proofs.ModelLawsProved.{step_is_never_full}
use Rattle.hfs_model.proofs.model_laws.step_is_never_full.Goals as goal

pub returns : goal.returns
returns c = step_is_never_full
