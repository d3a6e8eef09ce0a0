-- An item that Delete chooses, and what it makes of the catalog's nodes and of the volume.
use Rattle.std.specs.Prelude.{◌≡◌, ℕ, true, List}
use Rattle.hfs_fields.specs.Counts.{with_counts}
use Rattle.hfs_fields.specs.Keys.{cat_cmp}
use Rattle.hfs_fields.specs.Records.{is_dir, is_item, item_id, dir_record_of}
use Rattle.hfs_fields.specs.declared.dir_record.DirRecord.{DirRecord}
use Rattle.hfs_fields.specs.declared.file_record.FileRecord.{FileRecord}
use Rattle.hfs_fields.specs.declared.key.CatKey.{CatKey}
use Rattle.hfs_fields.specs.declared.mdb.Mdb.{Mdb}
use Rattle.hfs_btree.specs.Pairs.{lookup}
use Rattle.hfs_btree.specs.Tree.{Store}
use Rattle.hfs_model.specs.declared.call.Call.TheVariants as call
use Rattle.hfs_model.specs.Choices.{to_delete}
use Rattle.hfs_catalog.specs.Records.{Record, Catalog}
use Rattle.hfs_catalog.specs.Tree.{catalog_of}
use Rattle.hfs_record_edits.specs.Bodies.{IfBody}
use Rattle.hfs_record_edits.specs.ItemEdits.{ItemWent, HasValenceSet}
use Rattle.hfs_check.specs.Parts.{Blocks, mdb_in}
use Rattle.hfs_check.specs.VolumeOf.{volume_in}
use Rattle.hfs_record_edits.specs.Changes.{IsFolderWith}
use Rattle.hfs_record_edits.specs.Laws.{MakesStep, IsStepped}
use Rattle.hfs_record_edits.specs.RemovalLaws.{without_folder}
use Rattle.hfs_call_patches.specs.CallChanges.{IsChangeOf}
use Rattle.hfs_call_patches.specs.Settings.{IsFileChoice, IsFolderChoice}
use Rattle.hfs_call_patches.specs.declared.change.Change.{Change}

-- ---- its folder

-- the record under this key is that of the folder with this ID, which has so many children
pub record IsParent (catalog : Catalog) (dir : ℕ) (key : CatKey) (valence : ℕ) : Type 0 where
  pub of : Record
  pub is : IsFolderWith catalog dir of
  pub own_key : of.0 ≡ key
  pub own_valence : (dir_record_of of.1).valence ≡ valence

-- ---- the catalog's nodes

-- a folder's record is under this key when the item under the other, with the thread of its ID, went
abbrev pub StaysFolder : CatKey → ℕ → CatKey → Store → Type 0
StaysFolder key id folder old = (middle : Store) → ItemWent key id old middle → IfBody (λ body. is_dir body ≡ true) (lookup cat_cmp folder (catalog_of middle))

-- the item under the key went with the thread of its ID, and then the folder under the other got so many children and this moment
pub record ItemDropped (key : CatKey) (id : ℕ) (folder : CatKey) (n now : ℕ) (old new : Store) : Type 0 where
  pub middle : Store
  pub went : ItemWent key id old middle
  pub set : HasValenceSet folder n now middle new

-- the record of an item is under the key
abbrev pub IsItemUnder : CatKey → Catalog → Type 0
IsItemUnder key catalog = IfBody (λ body. is_item body ≡ true) (lookup cat_cmp key catalog)

-- it has this ID
abbrev pub HasIdUnder : CatKey → ℕ → Catalog → Type 0
HasIdUnder key id catalog = IfBody (λ body. item_id body ≡ id) (lookup cat_cmp key catalog)

-- ---- a folder that is deleted

-- under some name a Delete in this folder chooses the folder with this key and this record
pub record IsFolderToDelete (old : Blocks) (dir : ℕ) (key : CatKey) (folder : DirRecord) : Type 0 where
  pub name : List ℕ
  pub chosen : IsFolderChoice old (to_delete (volume_in old) dir name) key folder

-- wherever a Delete chooses it, its step was made
abbrev pub MakesFolderDeletion : ℕ → CatKey → DirRecord → ℕ → Blocks → Blocks → Type 0
MakesFolderDeletion dir key folder now old new =
    (name : List ℕ) → IsFolderChoice old (to_delete (volume_in old) dir name) key folder
    → MakesStep (call.Delete dir name now) (without_folder dir now (mdb_in old)) old new

-- wherever a Delete chooses it, the change is the call's
abbrev pub IsFolderDeletion : ℕ → CatKey → DirRecord → ℕ → ℕ → Blocks → Change → Type 0
IsFolderDeletion dir key folder now total old change =
    (name : List ℕ) → IsFolderChoice old (to_delete (volume_in old) dir name) key folder → IsChangeOf (call.Delete dir name now) total old change

-- ---- a file that is deleted

-- under some name a Delete in this folder chooses the file with this key and this record
pub record IsFileToDelete (old : Blocks) (dir : ℕ) (key : CatKey) (file : FileRecord) : Type 0 where
  pub name : List ℕ
  pub chosen : IsFileChoice old (to_delete (volume_in old) dir name) key file

-- the call's step was made of the volume, with these counts
pub record IsFileDeleted (dir : ℕ) (name : List ℕ) (now total : ℕ) (old : Blocks) (counts : Mdb) (new : Blocks) : Type 0 where
  pub stepped : IsStepped (call.Delete dir name now) total old new
  pub directory : mdb_in new ≡ with_counts counts (mdb_in old)

-- wherever a Delete chooses this file
abbrev pub MakesFileDeletion : ℕ → CatKey → FileRecord → ℕ → ℕ → Blocks → Mdb → Blocks → Type 0
MakesFileDeletion dir key file now total old counts new =
    (name : List ℕ) → IsFileChoice old (to_delete (volume_in old) dir name) key file → IsFileDeleted dir name now total old counts new

-- the change is the call's
abbrev pub IsFileDeletion : ℕ → CatKey → FileRecord → ℕ → ℕ → Blocks → Change → Type 0
IsFileDeletion dir key file now total old change =
    (name : List ℕ) → IsFileChoice old (to_delete (volume_in old) dir name) key file → IsChangeOf (call.Delete dir name now) total old change
