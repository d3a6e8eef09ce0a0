-- Laws of this crate, by the laws that they stand on.
use Rattle.hfs_catalog.proofs.CatalogLawsProved.{items_are_records, sound_is_lawful}
use Rattle.hfs_check.proofs.LawsProved.{catalog_is_sound}
use Rattle.hfs_space.proofs.LawsProved.{owned_are_within}
use Rattle.hfs_call_patches.specs.Laws.{ForkEditsAreSetEof, ForkEditsAreWriteFork}
use Rattle.hfs_call_patches.specs.CallEdits.{EditsAreSetEof, EditsAreWriteFork, EditsLeaveNoOldByte}
use Rattle.hfs_call_patches.proofs.Edited as edited
use Rattle.hfs_call_patches.proofs.Whole as whole

-- Edits by which a fork is its first bytes, or has zeros after them, make the volume that SetEof makes.
pub fork_edits_are_set_eof : ForkEditsAreSetEof
fork_edits_are_set_eof = whole.edits_are_set_eof owned_are_within items_are_records catalog_is_sound sound_is_lawful

-- Edits by which a fork has given bytes from an offset on make the volume that WriteFork makes.
pub fork_edits_are_write_fork : ForkEditsAreWriteFork
fork_edits_are_write_fork = whole.edits_are_write_fork owned_are_within items_are_records catalog_is_sound sound_is_lawful

-- The edits of a fork's blocks, of its record, of the counts and of its bytes make the volume that SetEof makes.
pub edits_are_set_eof : EditsAreSetEof
edits_are_set_eof = edited.edits_are_set_eof catalog_is_sound fork_edits_are_set_eof

-- And with given bytes the volume that WriteFork makes.
pub edits_are_write_fork : EditsAreWriteFork
edits_are_write_fork = edited.edits_are_write_fork catalog_is_sound fork_edits_are_write_fork

-- Of the blocks of the fork then, no byte that must be a zero or a given one is another.
pub edits_leave_no_old_byte : EditsLeaveNoOldByte
edits_leave_no_old_byte = edited.edits_leave_no_old_byte catalog_is_sound
