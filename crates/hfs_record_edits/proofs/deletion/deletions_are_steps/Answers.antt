-- The law, by the laws of the crates below.
use Rattle.hfs_record_edits.proofs.LawsProved.{deletions_are_steps}
use Rattle.hfs_record_edits.proofs.deletion.deletions_are_steps.Goals as goal

pub returns : goal.returns
returns c = deletions_are_steps
