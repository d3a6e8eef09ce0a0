-- What Rename chooses, and the nodes that it needs.
use Rattle.std.specs.Prelude.{◌≡◌, ℕ, ℤ, pos, ◌≤◌, Bool, true, false, not, ◌==◌, if◌then◌else◌, List, IsTrue, Option, Result, Ok, Err}
use Rattle.std.specs.Ordering.{int_eq}
use Rattle.std.specs.Result.{MatchResult}
use Rattle.std.specs.Option.{option_map_or}
use Rattle.hfs_fields.specs.Names.{is_item_name}
use Rattle.hfs_fields.specs.Order.{same_name}
use Rattle.hfs_fields.specs.Records.{item_id}
use Rattle.hfs_fields.specs.declared.mdb.Mdb.{Mdb}
use Rattle.hfs_model.specs.declared.codes.TheConstants.{BAD_NAME, DUPLICATE}
use Rattle.hfs_model.specs.Choices.{and_then, to_rename}
use Rattle.hfs_model.specs.Need.{one_record}
use Rattle.hfs_catalog.specs.declared.item.ItemRecord.{ItemRecord}
use Rattle.hfs_catalog.specs.declared.item.ItemRecord.TheVariants.{Folder, File}
use Rattle.hfs_catalog.specs.declared.item.CatalogItem.{CatalogItem}
use Rattle.hfs_catalog.specs.Records.{Record, Catalog}
use Rattle.hfs_catalog.specs.Lookups.{child_named}
use Rattle.hfs_check.specs.Parts.{Blocks, catalog_nodes}
use Rattle.hfs_check.specs.VolumeOf.{volume_in}
use Rattle.hfs_call_patches.specs.declared.rekeying.Rekeying.{Rekeying}
use Rattle.hfs_call_edits.specs.Choosing.{map_ok, lock_code, unless_code, item_to_set}
use Rattle.hfs_call_patches.specs.Renaming.{IsRenameChoice}
use Rattle.hfs_btree.specs.Tree.{Store}
use Rattle.hfs_record_edits.specs.Rooms.{HasRoom}
use Rattle.hfs_catalog.specs.Tree.{catalog_of}
use Rattle.hfs_call_edits.specs.declared.editing.Refusal.{Refusal}
use Rattle.hfs_call_edits.specs.Room.{lacking}

-- ---- the choice by records

-- the ID that an item's record has
abbrev pub own_body_id : ItemRecord → ℕ
own_body_id (Folder r) = r.id
own_body_id (File r) = r.id

abbrev pub own_id : CatalogItem → ℕ
own_id item = own_body_id item.body

-- the folder's item of that name is another one
abbrev pub is_taken : Catalog → ℕ → List ℕ → ℕ → Bool
is_taken catalog dir name id = option_map_or (λ (r : Record). not (item_id r.1 == id)) (child_named catalog dir name) false

-- -48 where another item of the folder has the name
abbrev pub unless_taken : Catalog → ℕ → List ℕ → Record → Result Record ℤ
unless_taken catalog dir name r = if is_taken catalog dir name (item_id r.1) then Err DUPLICATE else Ok r

-- -44, -46, -37 of the new name, then as of an item that is set, then -48
abbrev pub item_to_rename : Mdb → Catalog → ℕ → List ℕ → List ℕ → Result Record ℤ
item_to_rename mdb catalog dir name new_name = unless_code (lock_code mdb) (
    if not (is_item_name new_name) then Err BAD_NAME
    else and_then (item_to_set mdb catalog dir name) (unless_taken catalog dir new_name))

-- the item of a record under a new name
abbrev pub renaming : List ℕ → Record → Rekeying
renaming new_name r = record { id = item_id r.1; from = r.0; to = record { parent = r.0.parent; name = new_name } }

-- ---- the item that Rename chooses

-- Rename chooses the item, which has the name, in whatever case its ASCII letters are
pub record IsRenaming (old : Blocks) (dir : ℕ) (name new_name : List ℕ) (item : Rekeying) : Type 0 where
  pub choice : IsRenameChoice old dir name new_name item
  pub low : 2 ≤ item.from.parent
  pub alike : same_name item.from.name name ≡ true
  pub named : IsTrue (is_item_name item.to.name)

-- Rename is refused with this code
pub record IsRenameRefused (old : Blocks) (dir : ℕ) (name new_name : List ℕ) (code : ℤ) : Type 0 where
  pub refused : to_rename (volume_in old) dir name new_name ≡ Err code
  pub other : int_eq code (pos 0) ≡ false

abbrev pub ChoosesRenaming : Blocks → ℕ → List ℕ → List ℕ → Result Rekeying ℤ → Type 0
ChoosesRenaming old dir name new_name result = MatchResult result (λ item. IsRenaming old dir name new_name item) (λ code. IsRenameRefused old dir name new_name code)

-- ---- lack of nodes

-- the nodes that a new name may need: none where only the case of ASCII letters differs
abbrev pub nodes_for_name : List ℕ → List ℕ → ℕ → ℕ
nodes_for_name name new_name depth = if same_name name new_name then 0 else one_record depth

-- if the new name differs in more than the case of ASCII letters, these nodes have room for one more record
abbrev pub HasRoomForName : List ℕ → List ℕ → Store → Type 0
HasRoomForName name new_name nodes = same_name name new_name ≡ false → HasRoom nodes

-- the item that Rename chooses in the nodes of a catalog, under its new name
abbrev pub chosen_renaming : Mdb → Store → ℕ → List ℕ → List ℕ → Result Rekeying ℤ
chosen_renaming mdb nodes dir name new_name = map_ok (renaming new_name) (item_to_rename mdb (catalog_of nodes) dir name new_name)

-- what refuses a new name in a volume of these blocks for lack of nodes
abbrev pub lacking_for_name : List ℕ → List ℕ → Blocks → Option Refusal
lacking_for_name name new_name blocks = lacking (nodes_for_name name new_name) (catalog_nodes blocks)

-- its catalog has room for the name
abbrev pub HasRoomToRename : List ℕ → List ℕ → Blocks → Type 0
HasRoomToRename name new_name blocks = HasRoomForName name new_name (catalog_nodes blocks)
