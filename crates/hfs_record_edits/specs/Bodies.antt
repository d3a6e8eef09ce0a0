-- The bodies that edits write.
use Rattle.std.proofs.Common.{◌≡◌, ℕ, true, List}
use Rattle.std.specs.Prelude.{Option, Some, None}
use Rattle.hfs_fields.specs.declared.key.CatKey.{CatKey}
use Rattle.hfs_fields.specs.declared.dir_record.DirRecord.{DirRecord}
use Rattle.hfs_fields.specs.declared.thread_record.ThreadRecord.{ThreadRecord}
use Rattle.hfs_fields.specs.Records.{is_dir, is_file, thread_record_of}
use Rattle.hfs_fields.specs.RecordForms.{IsDirRecordValue, dir_record_bytes, IsFileRecordValue, file_record_bytes, thread_record_bytes}
use Rattle.hfs_catalog.specs.declared.item.ItemRecord.{ItemRecord}
use Rattle.hfs_catalog.specs.declared.item.ItemRecord.TheVariants.{Folder, File}
use Rattle.hfs_catalog.specs.Records.{Record}
use Rattle.hfs_catalog.specs.Lookups.{first_key}

-- ---- items

-- an item's record as it is written
abbrev pub item_bytes : ItemRecord → List ℕ
item_bytes (Folder dir) = dir_record_bytes dir
item_bytes (File file) = file_record_bytes file

-- what the program's records of items keep
abbrev pub IsItemValue : ItemRecord → Type 0
IsItemValue (Folder dir) = IsDirRecordValue dir
IsItemValue (File file) = IsFileRecordValue file

-- a body of the same kind
abbrev pub IsOfKind : ItemRecord → List ℕ → Type 0
IsOfKind (Folder dir) body = is_dir body ≡ true
IsOfKind (File file) body = is_file body ≡ true

-- the fact holds of a body that is there
abbrev pub IfBody : (List ℕ → Type 0) → Option (List ℕ) → Type 0
IfBody P None = ⊥
IfBody P (Some body) = P body

-- a folder's record with another valence and moment; every other field stays
abbrev pub with_valence : ℕ → ℕ → DirRecord → DirRecord
with_valence n now dir = record dir { valence = n; modified = now }

-- ---- threads

-- the record of a thread
abbrev pub thread_record : ℕ → ThreadRecord → Record
thread_record id thread = (first_key id, thread_record_bytes thread)

-- a thread that leads to another key; its kind and its reserved bytes stay
abbrev pub turned : CatKey → Record → ThreadRecord
turned key thread = record (thread_record_of thread.1) { parent = key.parent; name = key.name }

-- the thread's record, turned to this key
abbrev pub turned_record : ℕ → CatKey → Record → Record
turned_record id key thread = thread_record id (turned key thread)
