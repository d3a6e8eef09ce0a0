-- The items that a catalog holds.
use Rattle.std.specs.Prelude.{ℕ, false, Bool, if◌then◌else◌, List, ◌∷◌, ◌++◌, map, drop, replicate}
use Rattle.std.specs.FinMap as finite
use Rattle.hfs_fields.specs.declared.key.CatKey.{CatKey}
use Rattle.hfs_fields.specs.declared.dir_record.DirRecord.{DirRecord}
use Rattle.hfs_fields.specs.declared.file_record.FileRecord.{FileRecord}
use Rattle.hfs_fields.specs.declared.file_record.ForkRecord.{ForkRecord}
use Rattle.hfs_fields.specs.Records.{is_dir, item_id, dir_record_of, file_record_of, is_bit_set, with_bit, no_extents}
use Rattle.hfs_fields.specs.RecordForms.{dir_record_bytes, file_record_bytes}
use Rattle.hfs_model.specs.declared.item.Item.{Item}
use Rattle.hfs_model.specs.declared.item.Kind.TheVariants as kind
use Rattle.hfs_model.specs.Volume.{Items, Entry}
use Rattle.hfs_catalog.specs.Records.{Record, Catalog, items_of, has_thread}

-- the bytes of both forks of a file: of the data fork, and of the resource fork
abbrev pub Contents : Type 0
Contents = FileRecord → List ℕ × List ℕ

-- ---- the kept bytes: a record's, with 0 in place of its type and of each field that the model has or that follows

abbrev pub no_finder_info : List ℕ
no_finder_info = replicate 16 0

unfoldable pub folder_kept : DirRecord → List ℕ
folder_kept r =
    0 ∷ drop 1 (dir_record_bytes (record r {
      valence = 0;
      id = 0;
      created = 0;
      modified = 0;
      backup = 0;
      finder_info = no_finder_info;
      extended_finder_info = no_finder_info;
    }))

-- of a fork: its first block and its physical length stay
abbrev pub fork_kept : ForkRecord → ForkRecord
fork_kept fork = record fork { length = 0; extents = no_extents }

-- bit 0 of the flags is the lock; the others stay
unfoldable pub file_kept : FileRecord → List ℕ
file_kept r =
    0 ∷ drop 1 (file_record_bytes (record r {
      flags = record { 0 = with_bit 0 false r.flags.0 };
      finder_info = no_finder_info;
      id = 0;
      «data» = fork_kept r.«data»;
      resource = fork_kept r.resource;
      created = 0;
      modified = 0;
      backup = 0;
      extended_finder_info = no_finder_info;
    }))

-- ---- the item of a record

unfoldable pub folder_of : CatKey → DirRecord → Item
folder_of key r = record {
  parent = key.parent;
  name = key.name;
  created = r.created;
  modified = r.modified;
  backup = r.backup;
  finder = r.finder_info ++ r.extended_finder_info;
  kind = kind.Folder (folder_kept r);
}

-- whether a file has a thread is known by the thread's record
unfoldable pub file_of : Bool → List ℕ × List ℕ → CatKey → FileRecord → Item
file_of has_thread forks key r = record {
  parent = key.parent;
  name = key.name;
  created = r.created;
  modified = r.modified;
  backup = r.backup;
  finder = r.finder_info ++ r.extended_finder_info;
  kind = kind.File (record { kept = file_kept r; locked = is_bit_set 0 r.flags.0; has_thread = has_thread; «data» = forks.0; resource = forks.1 });
}

unfoldable pub item_of : Contents → Catalog → Record → Item
item_of contents catalog r =
    if is_dir r.1 then folder_of r.0 (dir_record_of r.1)
    else file_of (has_thread catalog (file_record_of r.1).id) (contents (file_record_of r.1)) r.0 (file_record_of r.1)

-- under its ID
abbrev pub entry_of : Contents → Catalog → Record → Entry
entry_of contents catalog r = (item_id r.1, item_of contents catalog r)

-- ---- the items of a catalog

unfoldable pub items_in : Contents → Catalog → Items
items_in contents catalog = finite.from_entries (map (entry_of contents catalog) (items_of catalog))
