-- What holds of Create and DirCreate. Each statement is what a function of src/creation.rt ensures.
use Rattle.std.specs.Prelude.{ℕ, ◌+◌, ◌==◌, List}
use Rattle.hfs_fields.specs.declared.mdb.Mdb.{Mdb}
use Rattle.hfs_fields.specs.Records.{new_dir, new_file}
use Rattle.hfs_fields.specs.RecordForms.{dir_record_bytes, file_record_bytes}
use Rattle.hfs_catalog.specs.Records.{Record}
use Rattle.hfs_record_edits.specs.Swaps.{one_if}

-- the record of a new file
abbrev pub file_record_in : ℕ → ℕ → List ℕ → ℕ → Record
file_record_in id dir name now = (record { parent = dir; name = name }, file_record_bytes (new_file id now))

-- the record of a new folder
abbrev pub folder_record_in : ℕ → ℕ → List ℕ → ℕ → Record
folder_record_in id dir name now = (record { parent = dir; name = name }, dir_record_bytes (new_dir id now))

-- the counts with one more file in this folder
abbrev pub with_file : ℕ → ℕ → Mdb → Mdb
with_file dir now mdb = record mdb { modified = now; next_id = mdb.next_id + 1; root_files = mdb.root_files + one_if (dir == 2); files = mdb.files + 1 }

-- with one more folder in it
abbrev pub with_folder : ℕ → ℕ → Mdb → Mdb
with_folder dir now mdb = record mdb { modified = now; next_id = mdb.next_id + 1; root_folders = mdb.root_folders + one_if (dir == 2); folders = mdb.folders + 1 }
