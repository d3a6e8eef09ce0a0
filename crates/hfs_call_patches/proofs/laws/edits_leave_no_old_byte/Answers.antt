-- The law, by the laws of the crates below.
use Rattle.hfs_call_patches.proofs.LawsProved.{edits_leave_no_old_byte}
use Rattle.hfs_call_patches.proofs.laws.edits_leave_no_old_byte.Goals as goal

pub returns : goal.returns
returns c = edits_leave_no_old_byte
