use Rattle.hfs_model.proofs.ModelLawsProved.{refusal_leaves}
use Rattle.hfs_model.proofs.model_laws.refusal_leaves.Goals as goal

pub returns : goal.returns
returns c = refusal_leaves
