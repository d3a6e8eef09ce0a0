-- What a setting of an item's record makes of a volume's blocks.
use Rattle.std.specs.Prelude.{◌≡◌, ℕ, ℤ, Bool, true, List, length, take, Option, Some, None, Result, OnOk}
use Rattle.hfs_fields.specs.declared.key.CatKey.{CatKey}
use Rattle.hfs_fields.specs.declared.mdb.Mdb.{Mdb}
use Rattle.hfs_fields.specs.declared.dir_record.DirRecord.{DirRecord}
use Rattle.hfs_fields.specs.declared.file_record.FileRecord.{FileRecord}
use Rattle.hfs_fields.specs.Counts.{SameBesideCounts, with_counts}
use Rattle.hfs_fields.specs.Keys.{cat_cmp}
use Rattle.hfs_fields.specs.Mdb.{mdb_of}
use Rattle.hfs_fields.specs.Records.{is_dir, is_file, dir_record_of, file_record_of}
use Rattle.hfs_blocks.specs.Layers.{Changes, Numbered, changes, with_change}
use Rattle.hfs_btree.specs.Pairs.{lookup}
use Rattle.hfs_btree_edits.specs.Edits.{with_replaced}
use Rattle.hfs_catalog.specs.declared.item.ItemRecord.{ItemRecord}
use Rattle.hfs_catalog.specs.Records.{Record, Catalog}
use Rattle.hfs_record_edits.specs.Bodies.{item_bytes, IsItemValue, IfBody, IsOfKind}
use Rattle.hfs_model.specs.Volume.{Entry, Volume}
use Rattle.hfs_model.specs.declared.call.Call.{Call}
use Rattle.hfs_check.specs.Parts.{Blocks, catalog_in}
use Rattle.hfs_record_edits.specs.OnBlocks.{HasTree}
use Rattle.hfs_record_edits.specs.SettingLaws.{IsChoice, MakesAt, lock_call}
use Rattle.hfs_model.specs.declared.call.Call.TheVariants as call
use Rattle.hfs_model.specs.Choices.{file_to_change, to_set_f_info, to_set_cat_info}
use Rattle.hfs_check.specs.VolumeOf.{volume_in}
use Rattle.hfs_model.specs.declared.settings.ItemSettings.{ItemSettings}

-- the body is there, and passes
abbrev pub IsBody : (List ℕ → Bool) → Option (List ℕ) → Type 0
IsBody test None = ⊥
IsBody test (Some body) = test body ≡ true

-- a file's record is under the key
abbrev pub IsFileUnder : CatKey → Catalog → Type 0
IsFileUnder key catalog = IsBody is_file (lookup cat_cmp key catalog)

-- a folder's record is under the key
abbrev pub IsFolderUnder : CatKey → Catalog → Type 0
IsFolderUnder key catalog = IsBody is_dir (lookup cat_cmp key catalog)

-- a record of the item's kind is under the key
abbrev pub IsOfKindUnder : CatKey → ItemRecord → Catalog → Type 0
IsOfKindUnder key item catalog = IfBody (IsOfKind item) (lookup cat_cmp key catalog)

-- the master directory block, with these counts, was put into the patch
pub record PutsCounts (counts : Mdb) (own : List ℕ) (old new : Changes) : Type 0 where
  pub block : List ℕ
  pub put : new ≡ with_change old 2 block
  pub long : length block ≡ 512
  pub others : SameBesideCounts own block
  pub fields : mdb_of (take 162 block) ≡ with_counts counts (mdb_of (take 162 own))

-- where the result is Ok, they were put into the patch over these blocks
abbrev pub PutsCountsOver : {T E : Type 0} → Result T E → Mdb → Blocks → Numbered → Numbered → Type 0
PutsCountsOver result counts blocks old new = OnOk result (PutsCounts counts (blocks 2) (changes old) (changes new))

-- the body takes the place of the one under the key, and the volume has these counts
pub record HasSetRecord (key : CatKey) (body : List ℕ) (counts : Mdb) (old new : Blocks) : Type 0 where
  pub tree : HasTree counts old new
  pub content : catalog_in new ≡ with_replaced cat_cmp key body (catalog_in old)

-- the item's record, as the program has it
pub record HasSetItem (key : CatKey) (item : ItemRecord) (counts : Mdb) (old new : Blocks) : Type 0 where
  pub value : IsItemValue item
  pub set : HasSetRecord key (item_bytes item) counts old new

-- ---- the item that a call chooses

-- a call chooses the file with this key and this record
pub record IsFileChoice (old : Blocks) (chosen : Result Entry ℤ) (key : CatKey) (file : FileRecord) : Type 0 where
  pub of : Record
  pub choice : IsChoice old chosen of
  pub own_key : of.0 ≡ key
  pub own_file : file_record_of of.1 ≡ file
  pub is : is_file of.1 ≡ true

-- a call chooses the folder with this key and this record
pub record IsFolderChoice (old : Blocks) (chosen : Result Entry ℤ) (key : CatKey) (folder : DirRecord) : Type 0 where
  pub of : Record
  pub choice : IsChoice old chosen of
  pub own_key : of.0 ≡ key
  pub own_folder : dir_record_of of.1 ≡ folder
  pub is : is_dir of.1 ≡ true

-- in some folder, under some name, the rule of a call chooses the file with this key and this record
pub record IsFileChosenBy (rule : Volume → ℕ → List ℕ → Result Entry ℤ) (old : Blocks) (key : CatKey) (file : FileRecord) : Type 0 where
  pub dir : ℕ
  pub name : List ℕ
  pub chosen : IsFileChoice old (rule (volume_in old) dir name) key file

-- the folder
pub record IsFolderChosenBy (rule : Volume → ℕ → List ℕ → Result Entry ℤ) (old : Blocks) (key : CatKey) (folder : DirRecord) : Type 0 where
  pub dir : ℕ
  pub name : List ℕ
  pub chosen : IsFolderChoice old (rule (volume_in old) dir name) key folder

-- ---- wherever a call chooses that item, its step was made

abbrev pub MakesSetFInfo : CatKey → FileRecord → List ℕ → ℕ → Blocks → Blocks → Type 0
MakesSetFInfo key file info now old new =
    (dir : ℕ) (name : List ℕ) → IsFileChoice old (to_set_f_info (volume_in old) dir name) key file → MakesAt (call.SetFInfo dir name info now) now old new

-- SetCatInfo with these settings
abbrev pub set_cat_info_call : ℕ → List ℕ → ItemSettings → ℕ → Call
set_cat_info_call dir name set now = call.SetCatInfo dir name set.created set.modified set.backup set.info now

abbrev pub MakesSetFileInfo : CatKey → FileRecord → ItemSettings → ℕ → Blocks → Blocks → Type 0
MakesSetFileInfo key file set now old new =
    (dir : ℕ) (name : List ℕ) → IsFileChoice old (to_set_cat_info (volume_in old) dir name) key file → MakesAt (set_cat_info_call dir name set now) now old new

abbrev pub MakesSetFolderInfo : CatKey → DirRecord → ItemSettings → ℕ → Blocks → Blocks → Type 0
MakesSetFolderInfo key folder set now old new =
    (dir : ℕ) (name : List ℕ) → IsFolderChoice old (to_set_cat_info (volume_in old) dir name) key folder → MakesAt (set_cat_info_call dir name set now) now old new

abbrev pub MakesSetLock : Bool → CatKey → FileRecord → ℕ → Blocks → Blocks → Type 0
MakesSetLock locked key file now old new =
    (dir : ℕ) (name : List ℕ) → IsFileChoice old (file_to_change (volume_in old) dir name) key file → MakesAt (lock_call locked dir name now) now old new
