-- What holds of Delete, as far as the catalog's records go. Each statement is what a function of src/removals.rt ensures.
use Rattle.std.specs.Prelude.{ℕ, ◌-◌, ◌==◌}
use Rattle.hfs_fields.specs.declared.mdb.Mdb.{Mdb}
use Rattle.hfs_record_edits.specs.Swaps.{one_if}

-- ---- a folder

-- the counts with one folder fewer in this folder
abbrev pub without_folder : ℕ → ℕ → Mdb → Mdb
without_folder dir now mdb = record mdb { modified = now; root_folders = mdb.root_folders - one_if (dir == 2); folders = mdb.folders - 1 }
