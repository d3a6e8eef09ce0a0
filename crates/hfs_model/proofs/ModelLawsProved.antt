-- Laws of this crate, each by the laws that it stands on.
use Rattle.std.proofs.Common.{true, false}
use Rattle.hfs_model.specs.declared.call.Call.{Call}
use Rattle.hfs_model.specs.declared.call.Call.TheVariants.{GetDirInfo, GetCatInfo, GetIndexed, List, ReadFork, Create, DirCreate, Delete, Rename, CatMove, SetFInfo, SetCatInfo, SetFLock, RstFLock, CreateFileId, DeleteFileId, ResolveFileId, SetEof, WriteFork}
use Rattle.hfs_model.specs.Volume.{Volume}
use Rattle.hfs_model.specs.Lawful.{IsLawful}
use Rattle.hfs_model.specs.Changes.{new_file, new_folder}
use Rattle.hfs_model.specs.Step.{step}
use Rattle.hfs_model.proofs.KeepsCalls.{create_keeps, rename_keeps, set_f_info_keeps, set_cat_info_keeps, set_lock_keeps}
use Rattle.hfs_model.proofs.KeepsRemoval.{delete_keeps}
use Rattle.hfs_model.proofs.KeepsMove.{cat_move_keeps}
use Rattle.hfs_model.proofs.KeepsFileIds.{create_file_id_keeps, delete_file_id_keeps}
use Rattle.hfs_model.proofs.KeepsForks.{set_eof_keeps, write_fork_keeps}
use Rattle.hfs_model.specs.Laws.{StepKeepsLawful, ReadingLeaves, RefusalLeaves, StepIsNeverFull, EnoughIsStep, ChildrenAreOne, CountsChildren}
use Rattle.hfs_model.proofs.LawTypes.{ReadingNeedsNone, FindsAtAnyDepth}
use Rattle.hfs_model.proofs.Leaves.{reading_leaves as reading_leaves-proved, refusal_leaves as refusal_leaves-proved, step_is_never_full as step_is_never_full-proved, enough_is_step as enough_is_step-proved, reading_needs_none as reading_needs_none-proved}
use Rattle.hfs_model.proofs.Parents.{lies_in_is}
use Rattle.hfs_model.proofs.Folders.{children_are_one as children_are_one-proved}
use Rattle.hfs_model.proofs.InOrder.{length-children}

keeps : (v : Volume) (c : Call) → IsLawful v → IsLawful (step v c).0
keeps v (GetDirInfo dir) h = h
keeps v (GetCatInfo dir name) h = h
keeps v (GetIndexed dir index) h = h
keeps v (List dir) h = h
keeps v (ReadFork dir name fork offset count) h = h
keeps v (Create dir name now) h = create_keeps new_file v dir name now h
keeps v (DirCreate dir name now) h = create_keeps new_folder v dir name now h
keeps v (Delete dir name now) h = delete_keeps v dir name now h
keeps v (Rename dir name new_name now) h = rename_keeps v dir name new_name now h
keeps v (CatMove dir name new_dir now) h = cat_move_keeps v dir name new_dir now h
keeps v (SetFInfo dir name info now) h = set_f_info_keeps v dir name info now h
keeps v (SetCatInfo dir name created modified backup info now) h = set_cat_info_keeps v dir name created modified backup info now h
keeps v (SetFLock dir name now) h = set_lock_keeps true v dir name now h
keeps v (RstFLock dir name now) h = set_lock_keeps false v dir name now h
keeps v (CreateFileId dir name now) h = create_file_id_keeps v dir name now h
keeps v (DeleteFileId id now) h = delete_file_id_keeps v id now h
keeps v (ResolveFileId id) h = h
keeps v (SetEof dir name fork length now) h = set_eof_keeps v.block_size v dir name fork length now h
keeps v (WriteFork dir name fork offset bytes now) h = write_fork_keeps v.block_size v dir name fork offset bytes now h

-- Each call keeps a volume lawful.
pub step_keeps_lawful : StepKeepsLawful
step_keeps_lawful = keeps

-- A reading call leaves the volume.
pub reading_leaves : ReadingLeaves
reading_leaves = reading_leaves-proved

-- A call with a code other than 0 leaves the volume.
pub refusal_leaves : RefusalLeaves
refusal_leaves = refusal_leaves-proved

-- No call is answered -34: that is the answer of a volume on disk, where nodes are wanting.
pub step_is_never_full : StepIsNeverFull
step_is_never_full = step_is_never_full-proved

-- With as many free nodes as a call needs it is answered as if none could be wanting.
pub enough_is_step : EnoughIsStep
enough_is_step = enough_is_step-proved

-- A reading call needs no free node.
pub reading_needs_none : ReadingNeedsNone
reading_needs_none = reading_needs_none-proved

-- In a lawful volume the search for offspring, which stops after as many steps as there are items, finds whatever lies
-- in an item at any depth.
pub finds_at_any_depth : FindsAtAnyDepth
finds_at_any_depth = λ v h id up. lies_in_is v.items v.next_id id up h

-- In a lawful volume there is one such list.
pub children_are_one : ChildrenAreOne
children_are_one = children_are_one-proved

-- A folder's children are as many as its valence.
pub counts_children : CountsChildren
counts_children = length-children
