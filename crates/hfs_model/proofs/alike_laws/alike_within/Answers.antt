use Rattle.hfs_model.proofs.AlikeLawsProved as laws
use Rattle.hfs_model.proofs.alike_laws.alike_within.Goals as goal

pub returns : goal.returns
returns c = laws.alike_within
