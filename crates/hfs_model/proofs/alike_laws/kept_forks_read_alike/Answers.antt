use Rattle.hfs_model.proofs.AlikeLawsProved as laws
use Rattle.hfs_model.proofs.alike_laws.kept_forks_read_alike.Goals as goal

pub returns : goal.returns
returns c = laws.kept_forks_read_alike
