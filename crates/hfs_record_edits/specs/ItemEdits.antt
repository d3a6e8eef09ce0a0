-- What the edits of items and threads make of the catalog: its records as a row of swaps, each of one that is removed and one that is put in.
use Rattle.std.specs.Prelude.{◌≡◌, ℕ, ◌+◌, ◌*◌, ◌≤◌, ◌⊎◌, true, false, List, [], ◌∷◌, Option, Some, None}
use Rattle.std.specs.Option.{option_map}
use Rattle.std.specs.Ordering.{is_eq}
use Rattle.hfs_fields.specs.declared.key.CatKey.{CatKey}
use Rattle.hfs_fields.specs.declared.dir_record.DirRecord.{DirRecord}
use Rattle.hfs_fields.specs.declared.file_record.FileRecord.{FileRecord}
use Rattle.hfs_fields.specs.declared.thread_record.ThreadKind.{ThreadKind}
use Rattle.hfs_fields.specs.declared.thread_record.ThreadKind.TheVariants as kind
use Rattle.hfs_catalog.specs.declared.item.ItemRecord.{ItemRecord}
use Rattle.hfs_fields.specs.Keys.{cat_cmp}
use Rattle.hfs_fields.specs.Records.{dir_record_of, is_dir, is_item, item_id, new_thread}
use Rattle.hfs_fields.specs.RecordForms.{IsDirRecordValue, dir_record_bytes, file_record_bytes, IsThreadRecordValue}
use Rattle.hfs_btree.specs.Tree.{Store}
use Rattle.hfs_btree.specs.Header.{depth_of, free_nodes}
use Rattle.hfs_btree.specs.Pairs.{lookup}
use Rattle.hfs_catalog.specs.Records.{Record, Catalog}
use Rattle.hfs_catalog.specs.Tree.{catalog_of}
use Rattle.hfs_catalog.specs.Lookups.{first_key, thread_of}
use Rattle.hfs_record_edits.specs.Swaps.{Swaps}
use Rattle.hfs_record_edits.specs.Keeps.{KeepsCatalog}
use Rattle.hfs_record_edits.specs.Rooms.{TakesNoNodes}
use Rattle.hfs_record_edits.specs.Finds.{record_at}
use Rattle.hfs_record_edits.specs.Bodies.{IfBody, IsOfKind, item_bytes, with_valence, thread_record, turned, turned_record}
use Rattle.hfs_record_edits.specs.RecordEdits.{RecordCame, RecordWent, RecordSet}

-- ---- a folder's valence

-- the folder's record under this key has this valence and moment, and every other bit as it was
pub record ValenceSet (key : CatKey) (n now : ℕ) (body : List ℕ) (old new : Store) : Type 0 where
  pub set : RecordSet (key, dir_record_bytes (with_valence n now (dir_record_of body))) old new
  pub value : IsDirRecordValue (with_valence n now (dir_record_of body))

-- whatever its body is
abbrev pub HasValenceSet : CatKey → ℕ → ℕ → Store → Store → Type 0
HasValenceSet key n now old new = (body : List ℕ) → lookup cat_cmp key (catalog_of old) ≡ Some body → ValenceSet key n now body old new

-- ---- new items

-- the record of a file in this folder under this name
abbrev pub file_record : ℕ → List ℕ → FileRecord → Record
file_record dir name file = (record { parent = dir; name = name }, file_record_bytes file)

-- the record of a folder in this one under this name
abbrev pub folder_record : ℕ → List ℕ → DirRecord → Record
folder_record dir name folder = (record { parent = dir; name = name }, dir_record_bytes folder)

-- a new folder's thread, which leads to it
abbrev pub folder_thread : ℕ → List ℕ → DirRecord → Record
folder_thread dir name folder = thread_record folder.id (new_thread kind.Folder dir name)

-- the folder's record was added, and then its thread's
pub record FolderCame (dir : ℕ) (name : List ℕ) (folder : DirRecord) (old new : Store) : Type 0 where
  pub keeps : KeepsCatalog ((folder_thread dir name folder).0 ∷ (folder_record dir name folder).0 ∷ []) old new
  pub between : Catalog
  pub item_came : Swaps None (Some (folder_record dir name folder)) (catalog_of old) between
  pub thread_came : Swaps None (Some (folder_thread dir name folder)) between (catalog_of new)
  pub value : IsDirRecordValue folder
  pub thread_value : IsThreadRecordValue (new_thread kind.Folder dir name)
  pub most : free_nodes old ≤ free_nodes new + 2 * depth_of old + 3
  pub most_depth : depth_of new ≤ depth_of old + 2

-- ---- an item that goes

-- the record under the key went, and then the thread of this ID, if there was one
pub record ItemWent (key : CatKey) (id : ℕ) (old new : Store) : Type 0 where
  pub keeps : KeepsCatalog [] old new
  pub between : Catalog
  pub item_went : Swaps (record_at key (catalog_of old)) None (catalog_of old) between
  pub thread_went : Swaps (thread_of (catalog_of old) id) None between (catalog_of new)
  pub took : TakesNoNodes old new

-- ---- an item under another key

-- the record was taken out and put under another key; or, where the keys are equal in order, in its place
abbrev pub Rekeyed : Option Record → Option Record → Catalog → Catalog → Type 0
Rekeyed r s old new = Swaps r s old new ⊎ ((between : Catalog) × Swaps r None old between × Swaps None s between new)

-- the record with another key and its own body
abbrev pub with_key : CatKey → Record → Record
with_key key r = (key, r.1)

-- the record under the one key is under the other
pub record RecordMoved (here there : CatKey) (old new : Store) : Type 0 where
  pub keeps : KeepsCatalog (there ∷ []) old new
  pub moved : Rekeyed (record_at here (catalog_of old)) (option_map (with_key there) (record_at here (catalog_of old))) (catalog_of old) (catalog_of new)
  pub most : free_nodes old ≤ free_nodes new + depth_of old + 1
  pub most_depth : depth_of new ≤ depth_of old + 1
  pub in_place : is_eq (cat_cmp here there) ≡ true → free_nodes new ≡ free_nodes old

-- the thread of this ID, if there is one, leads to this key; no node was added or freed
pub record ThreadTurned (id : ℕ) (key : CatKey) (old new : Store) : Type 0 where
  pub keeps : KeepsCatalog (first_key id ∷ []) old new
  pub swap : Swaps (thread_of (catalog_of old) id) (option_map (turned_record id key) (thread_of (catalog_of old) id)) (catalog_of old) (catalog_of new)
  pub value : (thread : Record) → thread_of (catalog_of old) id ≡ Some thread → IsThreadRecordValue (turned key thread)
  pub free : free_nodes new ≡ free_nodes old
  pub depth : depth_of new ≡ depth_of old

-- the item's record is under another key, and then its thread, if it has one, leads there
pub record ItemRekeyed (id : ℕ) (here there : CatKey) (old new : Store) : Type 0 where
  pub keeps : KeepsCatalog (first_key id ∷ there ∷ []) old new
  pub between : Catalog
  pub item_moved : Rekeyed (record_at here (catalog_of old)) (option_map (with_key there) (record_at here (catalog_of old))) (catalog_of old) between
  pub thread_set : Swaps (thread_of (catalog_of old) id) (option_map (turned_record id there) (thread_of (catalog_of old) id)) between (catalog_of new)
  pub value : (thread : Record) → thread_of (catalog_of old) id ≡ Some thread → IsThreadRecordValue (turned there thread)
  pub most : free_nodes old ≤ free_nodes new + depth_of old + 1
  pub most_depth : depth_of new ≤ depth_of old + 1
  pub in_place : is_eq (cat_cmp here there) ≡ true → free_nodes new ≡ free_nodes old

-- ---- words of the edits' contracts

-- under the key is the record of a file or folder
abbrev pub IsItemAt : Store → CatKey → Type 0
IsItemAt nodes key = IfBody (λ body. is_item body ≡ true) (lookup cat_cmp key (catalog_of nodes))

-- under the key is an item's record with this ID
abbrev pub HasIdAt : Store → CatKey → ℕ → Type 0
HasIdAt nodes key id = IfBody (λ body. item_id body ≡ id) (lookup cat_cmp key (catalog_of nodes))

-- under the key is the record of a folder
abbrev pub IsFolderAt : Store → CatKey → Type 0
IsFolderAt nodes key = IfBody (λ body. is_dir body ≡ true) (lookup cat_cmp key (catalog_of nodes))

-- under the key is an item's record of the kind of this one
abbrev pub IsSameKindAt : Store → CatKey → ItemRecord → Type 0
IsSameKindAt nodes key item = IfBody (IsOfKind item) (lookup cat_cmp key (catalog_of nodes))

-- no record has this name in the folder
abbrev pub IsNameFree : Store → ℕ → List ℕ → Type 0
IsNameFree nodes dir name = lookup cat_cmp (record { parent = dir; name = name }) (catalog_of nodes) ≡ None

-- no record has the key of the ID's thread
abbrev pub IsThreadKeyFree : Store → ℕ → Type 0
IsThreadKeyFree nodes id = lookup cat_cmp (first_key id) (catalog_of nodes) ≡ None

-- no record has the second key, unless the two are equal in order
abbrev pub IsFreeUnlessSame : Store → CatKey → CatKey → Type 0
IsFreeUnlessSame nodes here there = is_eq (cat_cmp here there) ≡ false → lookup cat_cmp there (catalog_of nodes) ≡ None

-- the record of a file in this folder was added
abbrev pub FileCame : ℕ → List ℕ → FileRecord → Store → Store → Type 0
FileCame dir name file old new = RecordCame (file_record dir name file) old new

-- the record of a folder in this one was added, without its thread
abbrev pub FolderAdded : ℕ → List ℕ → DirRecord → Store → Store → Type 0
FolderAdded dir name folder old new = RecordCame (folder_record dir name folder) old new

-- the record under the key went
abbrev pub RecordAtWent : CatKey → Store → Store → Type 0
RecordAtWent key old new = RecordWent (record_at key (catalog_of old)) old new

-- the thread of the ID went, if it had one
abbrev pub ThreadWent : ℕ → Store → Store → Type 0
ThreadWent id old new = RecordWent (thread_of (catalog_of old) id) old new

-- a new thread of the ID was added
abbrev pub ThreadCame : ℕ → ThreadKind → ℕ → List ℕ → Store → Store → Type 0
ThreadCame id kind dir name old new = RecordCame (thread_record id (new_thread kind dir name)) old new

-- the record under the key is this item's
abbrev pub ItemSet : CatKey → ItemRecord → Store → Store → Type 0
ItemSet key item old new = RecordSet (key, item_bytes item) old new
