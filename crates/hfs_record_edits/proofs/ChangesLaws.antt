-- What the calls that change a volume make of the records of its catalog.
use Rattle.std.specs.Prelude.{◌≡◌, ℕ, ◌+◌, ◌<◌, ◌⊎◌, IsTrue, true, false, Option, Some, None}
use Rattle.std.specs.Option.{option_map}
use Rattle.hfs_fields.specs.declared.key.CatKey.{CatKey}
use Rattle.hfs_fields.specs.declared.thread_record.ThreadRecord.{ThreadRecord}
use Rattle.hfs_fields.specs.Names.{is_item_name}
use Rattle.hfs_fields.specs.RecordForms.{IsThreadRecordValue}
use Rattle.hfs_fields.specs.Records.{is_dir, is_file, is_item, begins_thread, item_id, dir_record_of, file_record_of, thread_record_of}
use Rattle.hfs_catalog.specs.Records.{Record, Catalog, item_with}
use Rattle.hfs_catalog.specs.Lookups.{thread_of}
use Rattle.hfs_catalog.specs.Sound.{IsRecord, LeadsTo}
use Rattle.hfs_catalog.specs.Items.{Contents}
use Rattle.hfs_record_edits.specs.Swaps.{Swaps}
use Rattle.hfs_record_edits.proofs.StepsLaws.{IfThere, IsThreadOf, is_there}
use Rattle.hfs_record_edits.specs.Changes.{thread_record}

-- two records of one item, under one key and of one kind
pub record IsAlike (r s : Record) : Type 0 where
  pub key : s.0 ≡ r.0
  pub dir : is_dir s.1 ≡ is_dir r.1
  pub file : is_file s.1 ≡ is_file r.1
  pub id : item_id s.1 ≡ item_id r.1

-- the forks of each file have the bytes that they had
abbrev pub KeepsContents : Contents → Contents → Catalog → Type 0
KeepsContents old new catalog = (k : ℕ) (r : Record) → item_with catalog k ≡ Some r → is_dir r.1 ≡ false → new (file_record_of r.1) ≡ old (file_record_of r.1)

-- the same of each file but that of this ID
abbrev pub KeepsOthers : ℕ → Contents → Contents → Catalog → Type 0
KeepsOthers id old new catalog =
    (k : ℕ) (r : Record) → (k ≡ id → ⊥) → item_with catalog k ≡ Some r → is_dir r.1 ≡ false → new (file_record_of r.1) ≡ old (file_record_of r.1)

-- a thread that leads to another key; its kind and its reserved bytes stay
abbrev pub thread_to : CatKey → Record → ThreadRecord
thread_to key thread = record (thread_record_of thread.1) { parent = key.parent; name = key.name }

-- the thread's record, if there is one, led to this key
abbrev pub led_to : ℕ → CatKey → Option Record → Option Record
led_to id key thread = option_map (λ (t : Record). thread_record id (thread_to key t)) thread

-- what is written of it is what the program's threads keep
abbrev pub IsLedValue : CatKey → Option Record → Type 0
IsLedValue key thread = (t : Record) → thread ≡ Some t → IsThreadRecordValue (thread_to key t)

-- ---- a new item

-- a thread's record of the item with this ID, which leads to it
pub record IsItsThread (k : ℕ) (item one : Record) : Type 0 where
  pub of : IsThreadOf k one
  pub record_form : IsRecord one
  pub begins : IsTrue (begins_thread one.1)
  pub name : IsTrue (is_item_name (thread_record_of one.1).name)
  pub leads : LeadsTo item one

-- the record of a new item under a folder; one of a folder has a thread, and no children
pub record IsNewItem (k dir : ℕ) (one : Record) (its : Option Record) : Type 0 where
  pub item : is_item one.1 ≡ true
  pub id : item_id one.1 ≡ k
  pub parent : one.0.parent ≡ dir
  pub record_form : IsRecord one
  pub name : IsTrue (is_item_name one.0.name)
  pub thread : IfThere (IsItsThread k one) its
  pub threaded : is_there its ≡ is_dir one.1
  pub empty : is_dir one.1 ≡ true → (dir_record_of one.1).valence ≡ 0

-- the folder's record, with another valence
pub record IsFolderEdit (catalog : Catalog) (dir : ℕ) (r s : Record) : Type 0 where
  pub was : item_with catalog dir ≡ Some r
  pub folder : is_dir r.1 ≡ true
  pub alike : IsAlike r s

-- a record of the item with that ID and one of its thread came, and then the folder's record with one more child
pub record HasAdded (id dir : ℕ) (item : Record) (thread : Option Record) (r s : Record) (old new : Catalog) : Type 0 where
  pub first : Catalog
  pub second : Catalog
  pub item_came : Swaps None (Some item) old first
  pub thread_came : Swaps None thread first second
  pub folder_set : Swaps (Some r) (Some s) second new
  pub made : IsNewItem id dir item thread
  pub edit : IsFolderEdit old dir r s
  pub one_more : (dir_record_of s.1).valence ≡ (dir_record_of r.1).valence + 1
  pub room : (dir_record_of r.1).valence < 65535

-- ---- an item that goes

-- the item's record and its thread's went, and then came the folder's record with one child fewer
pub record HasDropped (id dir : ℕ) (item : Record) (thread : Option Record) (r s : Record) (old new : Catalog) : Type 0 where
  pub first : Catalog
  pub second : Catalog
  pub item_went : Swaps (Some item) None old first
  pub thread_went : Swaps thread None first second
  pub folder_set : Swaps (Some r) (Some s) second new
  pub item_was : item_with old id ≡ Some item
  pub thread_was : thread_of old id ≡ thread
  pub parent : item.0.parent ≡ dir
  pub edit : IsFolderEdit old dir r s
  pub one_fewer : (dir_record_of s.1).valence + 1 ≡ (dir_record_of r.1).valence

-- ---- an item under another key

-- the item's record went and came under another key; or, where the key is equal in order, in its place
abbrev pub ItemRekeyed : Record → Record → Catalog → Catalog → Type 0
ItemRekeyed r s old new = Swaps (Some r) (Some s) old new ⊎ ((between : Catalog) × Swaps (Some r) None old between × Swaps None (Some s) between new)

-- an item's record came under another key, and its thread's, if it has one, leads to it; the item stays what it is
pub record HasRekeyed (k : ℕ) (r s : Record) (thread turned : Option Record) (old new : Catalog) : Type 0 where
  pub second : Catalog
  pub item_moved : ItemRekeyed r s old second
  pub thread_set : Swaps thread turned second new
  pub was : item_with old k ≡ Some r
  pub thread_was : thread_of old k ≡ thread
  pub dir : is_dir s.1 ≡ is_dir r.1
  pub file : is_file s.1 ≡ is_file r.1
  pub id : item_id s.1 ≡ item_id r.1
  pub name : IsTrue (is_item_name s.0.name)
  pub record_form : IsRecord s
  pub valence : is_dir r.1 ≡ true → (dir_record_of s.1).valence ≡ (dir_record_of r.1).valence
  pub its : IfThere (IsItsThread k s) turned
  pub both : is_there turned ≡ is_there thread

-- ---- an item in another folder

-- the item's record came under another key, and then came both folders' records, with one child fewer and with one more
pub record HasMoved (k from to : ℕ) (r s : Record) (thread turned : Option Record) (r1 s1 r2 s2 : Record) (old new : Catalog) : Type 0 where
  pub middle : Catalog
  pub third : Catalog
  pub rekeyed : HasRekeyed k r s thread turned old middle
  pub first_set : Swaps (Some r1) (Some s1) middle third
  pub second_set : Swaps (Some r2) (Some s2) third new
  pub first : IsFolderEdit old from r1 s1
  pub second : IsFolderEdit old to r2 s2
  pub left : r.0.parent ≡ from
  pub came : s.0.parent ≡ to
  pub others : from ≡ to → ⊥
  pub not_first : k ≡ from → ⊥
  pub not_second : k ≡ to → ⊥
  pub one_fewer : (dir_record_of s1.1).valence + 1 ≡ (dir_record_of r1.1).valence
  pub one_more : (dir_record_of s2.1).valence ≡ (dir_record_of r2.1).valence + 1
  pub room : (dir_record_of r2.1).valence < 65535
