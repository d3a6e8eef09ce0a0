-- What the calls on file IDs choose by the records of a catalog.
use Rattle.std.specs.Prelude.{ℕ, ℤ, if◌then◌else◌, List, Result, Ok, Err}
use Rattle.std.specs.Option.{ok_or}
use Rattle.hfs_fields.specs.declared.mdb.Mdb.{Mdb}
use Rattle.hfs_fields.specs.Records.{is_dir, file_record_of}
use Rattle.hfs_model.specs.declared.codes.TheConstants.{FILE_ID_NOT_FOUND, FILE_ID_EXISTS, NOT_A_FILE}
use Rattle.hfs_model.specs.Choices.{and_then}
use Rattle.hfs_catalog.specs.Records.{Record, Catalog, item_with, has_thread}
use Rattle.hfs_call_edits.specs.Choosing.{as_file, lock_code, unless_code, child_to_change}
use Rattle.hfs_btree.specs.Tree.{Store}
use Rattle.hfs_catalog.specs.Tree.{catalog_of}
use Rattle.hfs_fields.specs.declared.key.CatKey.{CatKey}
use Rattle.hfs_fields.specs.declared.file_record.FileRecord.{FileRecord}

-- ---- choices

-- -1302 of a folder, -1301 of a file with a thread
abbrev pub unless_threaded : Catalog → Record → Result Record ℤ
unless_threaded catalog r =
    if is_dir r.1 then Err NOT_A_FILE
    else if has_thread catalog (file_record_of r.1).id then Err FILE_ID_EXISTS
    else Ok r

-- -1302 of a folder, -1300 of a file without a thread
abbrev pub if_threaded : Catalog → Record → Result Record ℤ
if_threaded catalog r =
    if is_dir r.1 then Err NOT_A_FILE
    else if has_thread catalog (file_record_of r.1).id then Ok r
    else Err FILE_ID_NOT_FOUND

-- the folder's file of that name, which has no thread: -44, -46, -37, -120, -43, -1302, -1301
abbrev pub file_without_id : Mdb → Catalog → ℕ → List ℕ → Result Record ℤ
file_without_id mdb catalog dir name = and_then (child_to_change mdb catalog dir name) (unless_threaded catalog)

-- the file of that ID, which has a thread: -44, -46, -1302, -1300
abbrev pub file_with_id : Mdb → Catalog → ℕ → Result Record ℤ
file_with_id mdb catalog id = unless_code (lock_code mdb) (and_then (ok_or (item_with catalog id) FILE_ID_NOT_FOUND) (if_threaded catalog))

-- the folder's file of that name, in the nodes of a catalog
abbrev pub chosen_without_id : Mdb → Store → ℕ → List ℕ → Result (CatKey × FileRecord) ℤ
chosen_without_id mdb nodes dir name = as_file (file_without_id mdb (catalog_of nodes) dir name)
