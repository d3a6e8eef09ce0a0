-- What the calls that change a volume make of the records of its catalog.
use Rattle.std.specs.Prelude.{◌≡◌, ℕ, true, Some}
use Rattle.hfs_fields.specs.declared.dir_record.DirRecord.{DirRecord}
use Rattle.hfs_fields.specs.declared.thread_record.ThreadRecord.{ThreadRecord}
use Rattle.hfs_fields.specs.RecordForms.{dir_record_bytes, thread_record_bytes}
use Rattle.hfs_fields.specs.Records.{is_dir, dir_record_of}
use Rattle.hfs_catalog.specs.Records.{Record, Catalog, item_with}
use Rattle.hfs_catalog.specs.Lookups.{first_key}

-- ---- threads

-- the record of an ID's thread
abbrev pub thread_record : ℕ → ThreadRecord → Record
thread_record id thread = (first_key id, thread_record_bytes thread)

-- the folder's record, with another valence and moment
abbrev pub with_children : ℕ → ℕ → DirRecord → DirRecord
with_children n now d = record d { valence = n; modified = now }

-- the folder's record, as it is found
pub record IsFolderWith (catalog : Catalog) (dir : ℕ) (r : Record) : Type 0 where
  pub was : item_with catalog dir ≡ Some r
  pub folder : is_dir r.1 ≡ true

-- a folder's record with so many children and this moment
abbrev pub folder_with : ℕ → ℕ → Record → Record
folder_with n now r = (r.0, dir_record_bytes (with_children n now (dir_record_of r.1)))
