-- The law, by the laws of the crates below.
use Rattle.hfs_call_patches.proofs.LawsProved.{edits_are_write_fork}
use Rattle.hfs_call_patches.proofs.laws.edits_are_write_fork.Goals as goal

pub returns : goal.returns
returns c = edits_are_write_fork
