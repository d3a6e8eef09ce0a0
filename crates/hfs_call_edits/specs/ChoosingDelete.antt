-- What Delete chooses in a catalog.
use Rattle.std.specs.Prelude.{ℕ, ℤ, Bool, false, ◌&&◌, nat_lt, if◌then◌else◌, List, Result, Err}
use Rattle.hfs_fields.specs.Records.{is_dir, dir_record_of}
use Rattle.hfs_fields.specs.declared.mdb.Mdb.{Mdb}
use Rattle.hfs_model.specs.declared.codes.TheConstants.{BUSY}
use Rattle.hfs_model.specs.Choices.{and_then}
use Rattle.hfs_catalog.specs.declared.item.ItemRecord.{ItemRecord}
use Rattle.hfs_catalog.specs.declared.item.ItemRecord.TheVariants.{Folder, File}
use Rattle.hfs_catalog.specs.declared.item.CatalogItem.{CatalogItem}
use Rattle.hfs_catalog.specs.Records.{Record, Catalog}
use Rattle.hfs_call_edits.specs.Choosing.{as_item, child_to_change, unless_locked}
use Rattle.hfs_btree.specs.Tree.{Store}
use Rattle.hfs_catalog.specs.Tree.{catalog_of}

-- ---- the item

-- a folder with children
abbrev pub is_busy : Record → Bool
is_busy r = is_dir r.1 && nat_lt 0 (dir_record_of r.1).valence

-- -47 of a folder with children, then -45 of a locked file
abbrev pub unless_held : Record → Result Record ℤ
unless_held r = if is_busy r then Err BUSY else unless_locked r

-- the record of the item that may be deleted
abbrev pub item_to_delete : Mdb → Catalog → ℕ → List ℕ → Result Record ℤ
item_to_delete mdb catalog dir name = and_then (child_to_change mdb catalog dir name) unless_held

-- whether it is a folder with children
abbrev pub is_busy_body : ItemRecord → Bool
is_busy_body (Folder r) = nat_lt 0 r.valence
is_busy_body (File r) = false

abbrev pub is_busy_item : CatalogItem → Bool
is_busy_item item = is_busy_body item.body

-- the folder's item of that name, in the nodes of a catalog
abbrev pub chosen_to_delete : Mdb → Store → ℕ → List ℕ → Result CatalogItem ℤ
chosen_to_delete mdb nodes dir name = as_item (item_to_delete mdb (catalog_of nodes) dir name)
