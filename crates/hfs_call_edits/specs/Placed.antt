-- Items of the catalog, with the places of their records.
use Rattle.std.specs.Prelude.{ℤ, Option, Result}
use Rattle.std.specs.Option.{option_map}
use Rattle.hfs_fields.specs.declared.key.CatKey.{CatKey}
use Rattle.hfs_fields.specs.declared.file_record.FileRecord.{FileRecord}
use Rattle.hfs_btree.specs.Tree.{Store}
use Rattle.hfs_btree_edits.specs.Entries.{IsPlaceOf}
use Rattle.hfs_catalog.specs.declared.item.CatalogItem.{CatalogItem}
use Rattle.hfs_catalog.specs.Tree.{cat_keys}
use Rattle.hfs_call_edits.specs.declared.placed.PlacedItem.{PlacedItem}
use Rattle.hfs_call_edits.specs.Choosing.{map_ok}
use Rattle.hfs_call_patches.specs.declared.choosing.FoundFile.{FoundFile}

-- ---- without their places

abbrev pub item_part : Option PlacedItem → Option CatalogItem
item_part found = option_map (λ p. p.item) found

abbrev pub item_chosen : Result PlacedItem ℤ → Result CatalogItem ℤ
item_chosen chosen = map_ok (λ p. p.item) chosen

abbrev pub file_chosen : Result FoundFile ℤ → Result (CatKey × FileRecord) ℤ
file_chosen chosen = map_ok (λ p. (p.key, p.file)) chosen

-- ---- the place is where the item's record is in these nodes of a catalog

abbrev pub IsItemPlaced : Store → PlacedItem → Type 0
IsItemPlaced nodes p = IsPlaceOf cat_keys nodes p.item.key p.place

abbrev pub IsFilePlaced : Store → FoundFile → Type 0
IsFilePlaced nodes p = IsPlaceOf cat_keys nodes p.key p.place
