use Rattle.hfs_copy.proofs.LawsProved as laws
use Rattle.hfs_copy.proofs.laws.kept_forks_are_alike.Goals as goal

pub returns : goal.returns
returns c = laws.kept_forks_are_alike
