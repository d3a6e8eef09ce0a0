-- What holds of CatMove. Each statement is what a function of src/moves.rt ensures.
use Rattle.std.specs.Prelude.{ℕ, ◌+◌, ◌-◌, Bool, not, ◌&&◌, ◌==◌}
use Rattle.hfs_fields.specs.declared.mdb.Mdb.{Mdb}
use Rattle.hfs_catalog.specs.Records.{Record}
use Rattle.hfs_record_edits.specs.Swaps.{one_if}

-- the item's record under another folder
abbrev pub under_folder : ℕ → Record → Record
under_folder dir r = (record r.0 { parent = dir }, r.1)

-- the counts where a folder or a file was moved from one folder to another
abbrev pub with_moved : Bool → ℕ → ℕ → ℕ → Mdb → Mdb
with_moved folder from to now mdb = record mdb {
  modified = now;
  root_files = mdb.root_files + one_if (not folder && (to == 2)) - one_if (not folder && (from == 2));
  root_folders = mdb.root_folders + one_if (folder && (to == 2)) - one_if (folder && (from == 2));
}
