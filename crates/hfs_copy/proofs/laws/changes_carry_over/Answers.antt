use Rattle.hfs_copy.proofs.LawsProved as laws
use Rattle.hfs_copy.proofs.laws.changes_carry_over.Goals as goal

pub returns : goal.returns
returns c = laws.changes_carry_over
