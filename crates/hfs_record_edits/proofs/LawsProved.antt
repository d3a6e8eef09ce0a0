-- Laws of this crate, each by the laws that it stands on.
use Rattle.hfs_record_edits.proofs.CountBounds.{creation_fits as creation_fits-proved, removal_fits as removal_fits-proved, move_fits as move_fits-proved}
use Rattle.hfs_record_edits.proofs.BoundLaws.{CreationFits, RemovalFits, MoveFits}
use Rattle.hfs_catalog.proofs.CatalogLawsProved.{valences_are_counted, items_are_records, sound_is_lawful, entries_are_records, named_are_records}
use Rattle.hfs_check.proofs.LawsProved.{catalog_is_sound}
use Rattle.hfs_record_edits.proofs.Added.{near, added_items as added_items-proved}
use Rattle.hfs_record_edits.proofs.ItemLaws.{AddedIsNear, AddedItems, DroppedIsNear, DroppedItems, RenamedIsNear, RenamedItems, MovedIsNear, MovedItems, ThreadsLead}
use Rattle.hfs_record_edits.proofs.Dropped.{near as near-dropped, dropped_items as dropped_items-proved}
use Rattle.hfs_record_edits.proofs.Rekeyed.{renamed_near, rekeyed_items}
use Rattle.hfs_record_edits.proofs.MovedItem.{moved_near, moved_items as moved_items-proved}
use Rattle.hfs_record_edits.proofs.MadeThreads.{made_thread}
use Rattle.hfs_record_edits.proofs.CreateMakes.{create_make_steps}
use Rattle.hfs_record_edits.proofs.CreationLaws.{CreateMakes, DirCreateMakes}
use Rattle.hfs_record_edits.proofs.DirCreateMakes.{dir_create_make_steps}
use Rattle.hfs_record_edits.proofs.Deleted.{deletions_are_steps as deletions_are_steps-proved}
use Rattle.hfs_record_edits.specs.Deletion.{DeletionsAreSteps}
use Rattle.hfs_record_edits.proofs.DeletionLaws.{DeleteFileMakes}
use Rattle.hfs_space.proofs.LawsProved.{owned_are_within}
use Rattle.hfs_model.proofs.ModelLawsProved.{step_keeps_lawful, finds_at_any_depth}
use Rattle.hfs_record_edits.proofs.DeletionMakes.{delete_file_makes as delete_file_makes-proved}
use Rattle.hfs_record_edits.proofs.Removal.{dropped}
use Rattle.hfs_record_edits.proofs.DropLaws.{DroppedLeaves, DeletionLeavesFile}
use Rattle.hfs_record_edits.proofs.DeletedFrames.{catalog_file_stays as catalog_file_stays-proved}
use Rattle.hfs_record_edits.proofs.FileIdMakes.{create_file_id_steps, delete_file_id_steps}
use Rattle.hfs_record_edits.proofs.FileIdLaws.{CreateFileIdMakes, DeleteFileIdMakes}
use Rattle.hfs_record_edits.proofs.Stepped.{catalog_edits_are_steps as catalog_edits_are_steps-proved}
use Rattle.hfs_record_edits.specs.Laws.{CatalogEditsAreSteps}
use Rattle.hfs_record_edits.proofs.LawTypes.{CatalogFileStays}
use Rattle.hfs_record_edits.proofs.CatalogEdits.{catalog_extents_stay}
use Rattle.hfs_record_edits.proofs.MoveMakes.{cat_move_steps}
use Rattle.hfs_record_edits.proofs.MoveLaws.{CatMoveMakes}
use Rattle.hfs_record_edits.proofs.Offspring.{offspring_by_parents as offspring_by_parents-proved}
use Rattle.hfs_record_edits.proofs.OffspringLaws.{OffspringByParents}
use Rattle.hfs_record_edits.proofs.FreeKeys.{folder_ids, creations_are_free, next_is_threadless, moves_are_free, renames_are_free}
use Rattle.hfs_record_edits.proofs.PlaceLaws.{FolderIdIs, CreationIsFree, NextIsThreadless, MoveIsFree, RenameIsFree, DeleteLeavesFolder, MoveLeavesFolders}
use Rattle.hfs_record_edits.proofs.Standing.{delete_leaves_folder, move_leaves_folders}
use Rattle.hfs_record_edits.proofs.DeleteMakes.{delete_folder_steps, delete_file_steps, delete_file_leaves}
use Rattle.hfs_record_edits.proofs.RemovalLaws.{DeleteFolderMakes, DeleteFileHolds, DeleteLeavesFiles}
use Rattle.hfs_record_edits.proofs.SetMakes.{choice_stands as choice_stands-proved}
use Rattle.hfs_record_edits.proofs.SettingLaws.{ChoiceStands, SetFInfoMakes, SetFileInfoMakes, SetFolderInfoMakes, SetLockMakes, RenameMakes}
use Rattle.hfs_record_edits.proofs.SettingSteps.{set_f_info_makes as set_f_info_makes-proved, set_file_info_makes, set_folder_info_makes, set_lock_makes as set_lock_makes-proved}
use Rattle.hfs_record_edits.proofs.RenameMakes.{rename_make_steps}

-- Where a new item is given an ID, each count has room for one more, and so has the folder's valence.
pub creation_fits : CreationFits
creation_fits = creation_fits-proved valences_are_counted catalog_is_sound

-- An item that may be deleted is counted, in its folder's valence too.
pub removal_fits : RemovalFits
removal_fits = removal_fits-proved catalog_is_sound

-- Where an item may be moved, the counts of the root and both folders' valences have room for the move.
pub move_fits : MoveFits
move_fits = move_fits-proved valences_are_counted catalog_is_sound

-- An item's record that came, with its thread's if it has one, and its folder's with one child more.
pub added_items-near : AddedIsNear
added_items-near =
    λ next dir item thread r s old new least h added rises. near items_are_records next dir item thread r s old new least h added rises

-- An item's record that came, with its thread's if it has one, and its folder's with one child more.
pub added_items-items : AddedItems
added_items-items =
    λ next dir item thread r s old new least h added. added_items-proved items_are_records next dir item thread r s old new least h added

-- An item's record that went, with its thread's if it had one, and its folder's with one child fewer.
pub dropped_items-near : DroppedIsNear
dropped_items-near =
    λ next id dir item thread r s old new h dropped rises. near-dropped items_are_records next id dir item thread r s old new h dropped rises

-- An item's record that went, with its thread's if it had one, and its folder's with one child fewer.
pub dropped_items-items : DroppedItems
dropped_items-items =
    λ next id dir item thread r s old new h dropped. dropped_items-proved items_are_records next id dir item thread r s old new h dropped

-- An item's record under another name, and its thread's if it has one.
pub renamed_items-near : RenamedIsNear
renamed_items-near =
    λ next id r s thread turned old new h moved stays rises. renamed_near next id r s thread turned old new h moved stays rises

-- An item's record under another name, and its thread's if it has one.
pub renamed_items-items : RenamedItems
renamed_items-items =
    λ next id r s thread turned old new h moved. rekeyed_items next id r s thread turned old new h moved items_are_records

-- An item's record under another folder, its thread's if it has one, and both folders' records.
pub moved_items-near : MovedIsNear
moved_items-near =
    λ next id from to r s thread turned r1 s1 r2 s2 old new h moved rises. moved_near next id from to r s thread turned r1 s1 r2 s2 old new h moved rises

-- An item's record under another folder, its thread's if it has one, and both folders' records.
pub moved_items-items : MovedItems
moved_items-items =
    λ next id from to r s thread turned r1 s1 r2 s2 old new h moved. moved_items-proved next id from to r s thread turned r1 s1 r2 s2 old new h moved items_are_records

-- A record of a thread with the parent and the name of an item, and of its kind, leads to it.
pub threads_lead : ThreadsLead
threads_lead = λ id item t ok kind parent name named. made_thread id item t ok kind parent name named

-- A new file's record under the next ID, and its folder's with one more child, make the step of Create.
pub create_makes : CreateMakes
create_makes = create_make_steps items_are_records valences_are_counted catalog_is_sound

-- A new folder's record under the next ID, its thread's, and its folder's with one more child, make the step of DirCreate.
pub dir_create_makes : DirCreateMakes
dir_create_makes = dir_create_make_steps items_are_records valences_are_counted catalog_is_sound

-- Edits that delete a file and hold the items of the call's step, with right counts, leave a sound volume, which is the one that
-- the step makes. The stray blocks are those of before.
pub deletions_are_steps : DeletionsAreSteps
deletions_are_steps = deletions_are_steps-proved items_are_records owned_are_within catalog_is_sound sound_is_lawful step_keeps_lawful

-- A file's record that went, with its thread's if it had one, its folder's with one child fewer, the extents tree without the
-- file's records and the clear bits of its blocks make the step of Delete.
pub delete_file_makes : DeleteFileMakes
delete_file_makes = delete_file_makes-proved items_are_records catalog_is_sound

-- An item's record that went with its thread's, and its folder's with one child fewer, leave the folder without the item.
pub dropped_leaves : DroppedLeaves
dropped_leaves = λ total now dir name item r old new h choice d. dropped items_are_records catalog_is_sound total now dir name item r old new h choice d

-- The deletion of a file leaves the catalog's file where it is.
pub deletion_leaves_file : DeletionLeavesFile
deletion_leaves_file = λ counts total id old new h edit given dropped. catalog_file_stays-proved counts total id old new h edit given dropped

-- A thread's record that came, and its file's with bit 1 of its flags set, make the step of CreateFileId.
pub create_file_id_makes : CreateFileIdMakes
create_file_id_makes = create_file_id_steps items_are_records catalog_is_sound

-- A thread's record that went, and its file's with bit 1 of its flags clear, make the step of DeleteFileId.
pub delete_file_id_makes : DeleteFileIdMakes
delete_file_id_makes = delete_file_id_steps items_are_records catalog_is_sound

-- Edits of the catalog that hold the items of a call's step, with right counts, leave a sound volume, which is the one that
-- the step makes.
pub catalog_edits_are_steps : CatalogEditsAreSteps
catalog_edits_are_steps = catalog_edits_are_steps-proved items_are_records owned_are_within catalog_is_sound sound_is_lawful step_keeps_lawful

-- Edits of the catalog leave its file where it is.
pub catalog_file_stays : CatalogFileStays
catalog_file_stays = λ counts total old new h edit. catalog_extents_stay counts total old new h edit

-- An item's record under another folder, with its thread's if it has one, and both folders' records, make the step of CatMove.
pub cat_move_makes : CatMoveMakes
cat_move_makes = cat_move_steps items_are_records valences_are_counted catalog_is_sound

-- An item that lies in another is found on the records by its chain of parents, upwards, within as many steps as there are items.
pub offspring_by_parents : OffspringByParents
offspring_by_parents = offspring_by_parents-proved entries_are_records finds_at_any_depth sound_is_lawful catalog_is_sound

-- The key of a new item is free, and no thread has its ID, which is the next; a folder's ID is 2 or more.
pub creation_is_free-folder : FolderIdIs
creation_is_free-folder = folder_ids catalog_is_sound

-- The key of a new item is free, and no thread has its ID, which is the next; a folder's ID is 2 or more.
pub creation_is_free-key : CreationIsFree
creation_is_free-key = creations_are_free named_are_records catalog_is_sound

-- The key of a new item is free, and no thread has its ID, which is the next; a folder's ID is 2 or more.
pub creation_is_free-thread : NextIsThreadless
creation_is_free-thread = next_is_threadless catalog_is_sound

-- The key to which an item may be moved is free.
pub move_is_free : MoveIsFree
move_is_free = moves_are_free named_are_records catalog_is_sound

-- The key to which an item may be renamed is free, unless it is equal in order to its own.
pub rename_is_free : RenameIsFree
rename_is_free = renames_are_free entries_are_records catalog_is_sound

-- A record that didn't go stands as it did: of a folder whose item went with its thread, and of both folders where an item was
-- moved.
pub folders_stand-delete : DeleteLeavesFolder
folders_stand-delete = delete_leaves_folder catalog_is_sound

-- A record that didn't go stands as it did: of a folder whose item went with its thread, and of both folders where an item was
-- moved.
pub folders_stand-moved : MoveLeavesFolders
folders_stand-moved = move_leaves_folders catalog_is_sound

-- A folder's record that went with its thread's, and its folder's with one child fewer, make the step of Delete.
pub delete_folder_makes : DeleteFolderMakes
delete_folder_makes = delete_folder_steps items_are_records catalog_is_sound

-- A file's record that went, with its thread's if it has one, and its folder's with one child fewer, hold the step of Delete,
-- where the forks of the other files have the bytes that they had.
pub delete_file_holds : DeleteFileHolds
delete_file_holds = delete_file_steps items_are_records catalog_is_sound

-- Of the files' records Delete takes away that of its item, if it is a file, and no other.
pub delete_leaves_files : DeleteLeavesFiles
delete_leaves_files = delete_file_leaves items_are_records catalog_is_sound

-- The record of an item that a call chooses stands under its key.
pub choice_stands : ChoiceStands
choice_stands = λ total chosen r old h choice. choice_stands-proved total chosen r old h choice

-- Another record of a file, with other first Finder bytes, makes the step of SetFInfo.
pub set_f_info_makes : SetFInfoMakes
set_f_info_makes = set_f_info_makes-proved items_are_records catalog_is_sound

-- Another record of an item, with other dates and Finder bytes, makes the step of SetCatInfo.
pub set_cat_info_makes-file : SetFileInfoMakes
set_cat_info_makes-file = set_file_info_makes items_are_records catalog_is_sound

-- Another record of an item, with other dates and Finder bytes, makes the step of SetCatInfo.
pub set_cat_info_makes-folder : SetFolderInfoMakes
set_cat_info_makes-folder = set_folder_info_makes items_are_records catalog_is_sound

-- Another record of a file, locked or not, makes the step of SetFLock or RstFLock.
pub set_lock_makes : SetLockMakes
set_lock_makes = set_lock_makes-proved items_are_records catalog_is_sound

-- An item's record under its new name, and its thread's if it has one, make the step of Rename.
pub rename_makes : RenameMakes
rename_makes = rename_make_steps items_are_records catalog_is_sound
