-- What calls that change a volume choose in its blocks, and what they make of them.
use Rattle.std.specs.Prelude.{◌≡◌, ℕ, ◌≤◌, ℤ, Bool, true, false, IsTrue, ⊤, List, Result, Ok, Err, Option, Some, None}
use Rattle.std.specs.Result.{MatchResult}
use Rattle.hfs_fields.specs.declared.key.CatKey.{CatKey}
use Rattle.hfs_fields.specs.declared.mdb.Mdb.{Mdb}
use Rattle.hfs_fields.specs.declared.dir_record.DirRecord.{DirRecord}
use Rattle.hfs_fields.specs.declared.file_record.FileRecord.{FileRecord}
use Rattle.hfs_fields.specs.Names.{is_item_name}
use Rattle.hfs_blocks.specs.declared.run.Run.{Run}
use Rattle.hfs_btree.specs.Header.{depth_of, free_nodes}
use Rattle.hfs_model.specs.declared.call.Call.{Call}
use Rattle.hfs_model.specs.declared.journal.Want.{Want}
use Rattle.hfs_model.specs.declared.journal.Want.TheVariants as want
use Rattle.hfs_model.specs.Replies.{is_accepted}
use Rattle.hfs_model.specs.Volume.{Entry, Volume}
use Rattle.hfs_model.specs.Changes.{refused}
use Rattle.hfs_model.specs.Need.{meets_want_of_nodes}
use Rattle.hfs_model.specs.Step.{step, is_writing}
use Rattle.hfs_catalog.specs.declared.item.ItemRecord.{ItemRecord}
use Rattle.hfs_catalog.specs.declared.item.ItemRecord.TheVariants.{Folder, File}
use Rattle.hfs_catalog.specs.declared.item.CatalogItem.{CatalogItem}
use Rattle.hfs_check.specs.Parts.{Blocks, mdb_in, catalog_nodes, catalog_in}
use Rattle.hfs_check.specs.Sound.{AreBlocksSound}
use Rattle.hfs_check.specs.VolumeOf.{volume_in, contents_in}
use Rattle.hfs_call_patches.specs.TreeFiles.{IsCatalogFile, IsExtentsFile}
use Rattle.hfs_call_patches.specs.Settings.{IsFileUnder, IsFolderUnder, IsFileChoice, IsFolderChoice}
use Rattle.hfs_call_patches.specs.declared.change.Change.{Change}
use Rattle.hfs_call_edits.specs.declared.editing.Refusal.{Refusal}
use Rattle.hfs_call_edits.specs.declared.editing.Refusal.TheVariants as refusal
use Rattle.hfs_call_patches.specs.CallChanges.{IsChangeOf, changed, written_blocks}
use Rattle.hfs_call_edits.specs.ForkWants.{MeetsForkWant}
use Rattle.hfs_call_edits.specs.ForkWrites.{WritesFork}
use Rattle.std.specs.Option.{MatchOption}
use Rattle.hfs_blocks.specs.Layers.{Numbered}
use Rattle.hfs_model.specs.Children.{entries_of}
use Rattle.hfs_model.specs.declared.reply.Value.{Value}
use Rattle.hfs_record_edits.specs.OnBlocks.{at_time}
use Rattle.hfs_items.specs.Queries.{AreEntries}
use Rattle.hfs_items.specs.Told.{is_folder}
use Rattle.hfs_call_patches.specs.Deleting.{IsParent}
use Rattle.hfs_call_patches.specs.FileIds.{IsThreadless}
use Rattle.hfs_blocks.specs.Blocks.{nodes_in}

-- the volume is sound, with at most 2,147,483,648 bytes; this is its master directory block, and in these runs lie the nodes of its trees
pub record IsEditing (total : ℕ) (blocks : Blocks) (mdb : Mdb) (extents catalog : List Run) : Type 0 where
  pub sound : AreBlocksSound total blocks
  pub few : total ≤ 4194304
  pub directory : mdb ≡ mdb_in blocks
  pub extents_file : IsExtentsFile extents total blocks
  pub catalog_file : IsCatalogFile catalog total blocks

-- the same of the blocks that a value shows
abbrev pub IsEditingIn : {B : Type 0} → (B → ℕ) → (B → Blocks) → B → Mdb → List Run → List Run → Type 0
IsEditingIn total blocks b mdb extents catalog = IsEditing (total b) (blocks b) mdb extents catalog

-- in these runs of the first value's blocks lie the nodes of the second's catalog
abbrev pub HoldCatalog : {B : Type 0} → (B → Blocks) → B → List Run → B → Type 0
HoldCatalog blocks b runs of = nodes_in (blocks b) runs ≡ catalog_nodes (blocks of)

-- the file has no thread yet in the catalog of these blocks
abbrev pub IsThreadlessIn : Blocks → CatKey × FileRecord → Type 0
IsThreadlessIn blocks file = IsThreadless (catalog_in blocks) file.0 file.1

-- ---- choices

-- a call chooses the file with this key and this record, which is there under an item name
pub record IsChosenFile (old : Blocks) (chosen : Result Entry ℤ) (key : CatKey) (file : FileRecord) : Type 0 where
  pub choice : IsFileChoice old chosen key file
  pub name : IsTrue (is_item_name key.name)
  pub there : IsFileUnder key (catalog_in old)

-- a call chooses the folder with this key and this record, which is there under an item name
pub record IsChosenFolder (old : Blocks) (chosen : Result Entry ℤ) (key : CatKey) (folder : DirRecord) : Type 0 where
  pub choice : IsFolderChoice old chosen key folder
  pub name : IsTrue (is_item_name key.name)
  pub there : IsFolderUnder key (catalog_in old)

abbrev pub IsChosenBody : Blocks → Result Entry ℤ → CatKey → ItemRecord → Type 0
IsChosenBody old chosen key (Folder r) = IsChosenFolder old chosen key r
IsChosenBody old chosen key (File r) = IsChosenFile old chosen key r

-- the file that a call chooses in the volume, or the code that refuses it
abbrev pub ChoosesFile : Blocks → Result Entry ℤ → Result (CatKey × FileRecord) ℤ → Type 0
ChoosesFile old chosen result = MatchResult result (λ f. IsChosenFile old chosen f.0 f.1) (λ code. chosen ≡ Err code)

-- the item
abbrev pub ChoosesItem : Blocks → Result Entry ℤ → Result CatalogItem ℤ → Type 0
ChoosesItem old chosen result = MatchResult result (λ item. IsChosenBody old chosen item.key item.body) (λ code. chosen ≡ Err code)

-- the file that the rule of a call names in the volume of these blocks, or the code that refuses it
abbrev pub ChoosesFileBy : (Volume → Result Entry ℤ) → Blocks → Result (CatKey × FileRecord) ℤ → Type 0
ChoosesFileBy rule old result = ChoosesFile old (rule (volume_in old)) result

-- the item
abbrev pub ChoosesItemBy : (Volume → Result Entry ℤ) → Blocks → Result CatalogItem ℤ → Type 0
ChoosesItemBy rule old result = ChoosesItem old (rule (volume_in old)) result

-- ---- what the catalog answers

-- its records answer the queries of the volume's entries
abbrev pub RecordsAreEntriesIn : Blocks → Type 0
RecordsAreEntriesIn old = AreEntries (contents_in old) (catalog_in old) (entries_of (volume_in old))

-- it has a folder with that ID
abbrev pub HasFolder : Blocks → ℕ → Type 0
HasFolder old dir = is_folder (catalog_in old) dir ≡ true

-- the key and the record of the folder with that ID; None where there is no such folder
abbrev pub FindsParent : Blocks → ℕ → Option (CatKey × DirRecord) → Type 0
FindsParent old dir result = MatchOption result (is_folder (catalog_in old) dir ≡ false) (λ p. IsParent (catalog_in old) dir p.0 p.1.valence)

-- ---- edits

-- the change with this patch and this answer, which of the counts changes the moment of the last change alone
abbrev pub change_at : ℕ → Blocks → Numbered → Value → Change
change_at now old patch answer = record { patch = patch; counts = at_time now (mdb_in old); written = None; value = answer }

-- whether the call runs out of nodes in the volume's catalog
abbrev pub wants_nodes : Call → Blocks → Bool
wants_nodes c old = meets_want_of_nodes (free_nodes (catalog_nodes old)) (depth_of (catalog_nodes old)) (volume_in old) c

-- the catalog has the nodes that the call needs, and its outcome
pub record HasNodes (c : Call) (old : Blocks) (Comes : Type 0) : Type 0 where
  pub enough : wants_nodes c old ≡ false
  pub comes : Comes

-- the call runs out of nodes, and these are the free nodes and the depth
pub record IsFull (c : Call) (old : Blocks) (free depth : ℕ) : Type 0 where
  pub wanting : wants_nodes c old ≡ true
  pub free_is : free ≡ free_nodes (catalog_nodes old)
  pub depth_is : depth ≡ depth_of (catalog_nodes old)

-- the call would be done otherwise, and this is wanting of its fork
pub record IsForkWanting (c : Call) (old : Blocks) (wanting : Want) : Type 0 where
  pub accepted : IsTrue (is_accepted (step (volume_in old) c).1)
  pub meets : MeetsForkWant c old (Some wanting)

-- this is wanting of a call
abbrev pub IsWantOf : Call → Blocks → Want → Type 0
IsWantOf c old (want.Nodes free depth) = IsFull c old free depth
IsWantOf c old (want.Room free wanted) = IsForkWanting c old (want.Room free wanted)
IsWantOf c old (want.ExtentNodes free depth) = IsForkWanting c old (want.ExtentNodes free depth)

-- the change that a call makes of a volume, or what refuses it
abbrev pub IsEditOf : Call → ℕ → Blocks → Result Change Refusal → Type 0
IsEditOf c total old (Ok change) = HasNodes c old (IsChangeOf c total old change)
IsEditOf c total old (Err (refusal.Code code)) = HasNodes c old (step (volume_in old) c ≡ refused (volume_in old) code)
IsEditOf c total old (Err (refusal.Want wanting)) = IsWantOf c old wanting

-- where the call is done, nothing was lacking; of a call that writes a fork a code is none that means done
abbrev pub HasForkRoom : Call → ℕ → Blocks → Result Change Refusal → Type 0
HasForkRoom c total old (Ok change) = MeetsForkWant c old None
HasForkRoom c total old (Err (refusal.Code code)) = is_writing c ≡ true → is_accepted (step (volume_in old) c).1 ≡ false
HasForkRoom c total old (Err (refusal.Want wanting)) = ⊤

-- where the call is done, the change writes its blocks of the call's fork
abbrev pub HasForkWritten : Call → ℕ → Blocks → Result Change Refusal → Type 0
HasForkWritten c total old (Ok change) = WritesFork c (written_blocks change.written) old (changed old change)
HasForkWritten c total old (Err why) = ⊤

-- what some call makes of it
pub record IsEdit (total : ℕ) (old : Blocks) (edit : Result Change Refusal) : Type 0 where
  pub of : Call
  pub is : IsEditOf of total old edit
  pub room : HasForkRoom of total old edit
  pub forks : HasForkWritten of total old edit
