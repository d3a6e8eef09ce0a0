-- Items that are put under another key: what their edit asks of the catalog, and how a call chooses them.
use Rattle.std.specs.Prelude.{◌≡◌, ℤ, ◌≤◌, true, false, IsTrue, None, Result}
use Rattle.std.specs.Ordering.{is_eq}
use Rattle.hfs_fields.specs.Keys.{cat_cmp}
use Rattle.hfs_fields.specs.Names.{is_item_name}
use Rattle.hfs_fields.specs.Records.{is_item, item_id}
use Rattle.hfs_fields.specs.Each.{Each}
use Rattle.hfs_btree.specs.Pairs.{lookup}
use Rattle.hfs_btree.specs.Tree.{Store}
use Rattle.hfs_model.specs.Volume.{Entry}
use Rattle.hfs_catalog.specs.Records.{Record}
use Rattle.hfs_catalog.specs.Sound.{IsRecord, AreNamesSound}
use Rattle.hfs_catalog.specs.Tree.{IsCatalogTree, catalog_of}
use Rattle.hfs_record_edits.specs.Bodies.{IfBody}
use Rattle.hfs_record_edits.specs.Rooms.{IsInFile, HasRoom}
use Rattle.hfs_record_edits.specs.Roots.{HasRoot}
use Rattle.hfs_check.specs.Parts.{Blocks}
use Rattle.hfs_record_edits.specs.SettingLaws.{IsChoice}
use Rattle.hfs_call_patches.specs.declared.rekeying.Rekeying.{Rekeying}
use Rattle.hfs_record_edits.specs.ItemEdits.{ItemRekeyed}

-- in these nodes of a sound catalog the item is there, and may be put under its other key: where the keys are not equal in order, that
-- key is free, and there are nodes for one more record
pub record CanRekey (item : Rekeying) (nodes : Store) : Type 0 where
  pub tree : IsCatalogTree nodes
  pub records : Each IsRecord (catalog_of nodes)
  pub names : AreNamesSound (catalog_of nodes)
  pub root : HasRoot (catalog_of nodes)
  pub there : IfBody (λ body. is_item body ≡ true) (lookup cat_cmp item.from (catalog_of nodes))
  pub own : IfBody (λ body. item_id body ≡ item.id) (lookup cat_cmp item.from (catalog_of nodes))
  pub low : 2 ≤ item.from.parent
  pub high : 2 ≤ item.to.parent
  pub named : IsTrue (is_item_name item.to.name)
  pub absent : is_eq (cat_cmp item.from item.to) ≡ false → lookup cat_cmp item.to (catalog_of nodes) ≡ None
  pub inside : IsInFile nodes
  pub room : is_eq (cat_cmp item.from item.to) ≡ false → HasRoom nodes

-- the item was put under its other key
abbrev pub Rekeys : Rekeying → Store → Store → Type 0
Rekeys item old new = ItemRekeyed item.id item.from item.to old new

-- a call chooses the item of this ID and this key, whose record is to have that other key
pub record IsRekeyChoice (old : Blocks) (chosen : Result Entry ℤ) (turn : Record → Record) (item : Rekeying) : Type 0 where
  pub of : Record
  pub choice : IsChoice old chosen of
  pub own_id : choice.id ≡ item.id
  pub own_key : of.0 ≡ item.from
  pub new_key : (turn of).0 ≡ item.to
