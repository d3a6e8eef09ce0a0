use Rattle.hfs_copy.proofs.LawsProved as laws
use Rattle.hfs_copy.proofs.laws.copies_answer.Goals as goal

pub returns : goal.returns
returns c = laws.copies_answer
