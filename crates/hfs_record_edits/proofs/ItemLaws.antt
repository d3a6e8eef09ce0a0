-- What an item that comes, goes or moves makes of a sound catalog: it is nearly sound, and holds the items that the model's change
-- makes. Each statement is what a function of src/catalog_items.rt ensures.
use Rattle.std.specs.Prelude.{◌≡◌, ℕ, ◌≤◌, Bool, true, false, [], Option, IsTrue}
use Rattle.std.specs.FinMap as map
use Rattle.hfs_fields.specs.declared.thread_record.ThreadRecord.{ThreadRecord}
use Rattle.hfs_fields.specs.declared.thread_record.ThreadKind.{ThreadKind}
use Rattle.hfs_fields.specs.declared.thread_record.ThreadKind.TheVariants.{Folder, File}
use Rattle.hfs_fields.specs.Keys.{cat_cmp}
use Rattle.hfs_fields.specs.Names.{is_item_name}
use Rattle.hfs_fields.specs.Records.{is_dir, dir_record_of}
use Rattle.hfs_fields.specs.RecordForms.{IsThreadRecordValue, thread_record_bytes}
use Rattle.hfs_btree.specs.Pairs.{Rises}
use Rattle.hfs_model.specs.declared.item.Item.{Item}
use Rattle.hfs_model.specs.Changes.{touched}
use Rattle.hfs_catalog.specs.Records.{Record, Catalog}
use Rattle.hfs_catalog.specs.Sound.{IsSoundCatalog}
use Rattle.hfs_catalog.specs.Items.{Contents, folder_of, item_of, items_in}
use Rattle.hfs_record_edits.proofs.ChangesLaws.{KeepsContents, KeepsOthers, IsItsThread, HasAdded, HasDropped, HasRekeyed, HasMoved}
use Rattle.hfs_record_edits.specs.Sound.{IsNearlySound}

abbrev pub is_folder_kind : ThreadKind → Bool
is_folder_kind Folder = true
is_folder_kind File = false

-- the folder's record has this moment, and its item is told as before in all else
abbrev pub IsTouched : ℕ → Record → Record → Type 0
IsTouched now r s = folder_of s.0 (dir_record_of s.1) ≡ record (folder_of r.0 (dir_record_of r.1)) { modified = now }

-- ---- a new item

abbrev pub AddedIsNear : Type 0
AddedIsNear =
    (next dir : ℕ) (item : Record) (thread : Option Record) (r s : Record) (old new : Catalog) → 16 ≤ next → IsSoundCatalog next old
    → HasAdded next dir item thread r s old new → Rises cat_cmp new → IsNearlySound new

abbrev pub AddedItems : Type 0
AddedItems =
    (next dir : ℕ) (item : Record) (thread : Option Record) (r s : Record) (old new : Catalog) → 16 ≤ next → IsSoundCatalog next old
    → HasAdded next dir item thread r s old new → (c d : Contents) (now : ℕ) (x : Item) → KeepsContents c d old → item_of d new item ≡ x → IsTouched now r s
    → items_in d new ≡ touched (map.insert (items_in c old) next x) dir now

-- a record of a thread with the item's parent and name, and of its kind, is its thread
abbrev pub ThreadsLead : Type 0
ThreadsLead =
    (id : ℕ) (item : Record) (t : ThreadRecord) → IsThreadRecordValue t → is_folder_kind t.kind ≡ is_dir item.1 → t.parent ≡ item.0.parent → t.name ≡ item.0.name
    → IsTrue (is_item_name item.0.name) → IsItsThread id item (record { parent = id; name = [] }, thread_record_bytes t)

-- ---- an item that goes

abbrev pub DroppedIsNear : Type 0
DroppedIsNear =
    (next id dir : ℕ) (item : Record) (thread : Option Record) (r s : Record) (old new : Catalog) → IsSoundCatalog next old
    → HasDropped id dir item thread r s old new → Rises cat_cmp new → IsNearlySound new

abbrev pub DroppedItems : Type 0
DroppedItems =
    (next id dir : ℕ) (item : Record) (thread : Option Record) (r s : Record) (old new : Catalog) → IsSoundCatalog next old
    → HasDropped id dir item thread r s old new → (c d : Contents) (now : ℕ) → KeepsOthers id c d old → IsTouched now r s
    → items_in d new ≡ touched (map.remove (items_in c old) id) dir now

-- ---- an item under another key

abbrev pub RenamedIsNear : Type 0
RenamedIsNear =
    (next id : ℕ) (r s : Record) (thread turned : Option Record) (old new : Catalog) → IsSoundCatalog next old → HasRekeyed id r s thread turned old new
    → s.0.parent ≡ r.0.parent → Rises cat_cmp new → IsNearlySound new

abbrev pub RenamedItems : Type 0
RenamedItems =
    (next id : ℕ) (r s : Record) (thread turned : Option Record) (old new : Catalog) → IsSoundCatalog next old → HasRekeyed id r s thread turned old new
    → (c d : Contents) → KeepsContents c d old → items_in d new ≡ map.insert (items_in c old) id (item_of d new s)

-- ---- an item in another folder

abbrev pub MovedIsNear : Type 0
MovedIsNear =
    (next id from to : ℕ) (r s : Record) (thread turned : Option Record) (r1 s1 r2 s2 : Record) (old new : Catalog) → IsSoundCatalog next old
    → HasMoved id from to r s thread turned r1 s1 r2 s2 old new → Rises cat_cmp new → IsNearlySound new

abbrev pub MovedItems : Type 0
MovedItems =
    (next id from to : ℕ) (r s : Record) (thread turned : Option Record) (r1 s1 r2 s2 : Record) (old new : Catalog) → IsSoundCatalog next old
    → HasMoved id from to r s thread turned r1 s1 r2 s2 old new → (c d : Contents) (now : ℕ) (x : Item) → KeepsContents c d old → item_of d new s ≡ x
    → IsTouched now r1 s1 → IsTouched now r2 s2 → items_in d new ≡ touched (touched (map.insert (items_in c old) id x) from now) to now
