-- The law, by the laws of the crates below.
use Rattle.hfs_call_patches.proofs.LawsProved.{fork_edits_are_write_fork}
use Rattle.hfs_call_patches.proofs.laws.fork_edits_are_write_fork.Goals as goal

pub returns : goal.returns
returns c = fork_edits_are_write_fork
