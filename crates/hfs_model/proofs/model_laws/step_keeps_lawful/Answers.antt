use Rattle.hfs_model.proofs.ModelLawsProved.{step_keeps_lawful}
use Rattle.hfs_model.proofs.model_laws.step_keeps_lawful.Goals as goal

pub returns : goal.returns
returns c = step_keeps_lawful
