-- The numbers in which a volume and its repaired one differ, by the volume's blocks.
use Rattle.std.specs.Prelude.{ℕ, Bool, true, if◌then◌else◌, List, [], filter}
use Rattle.std.specs.Option.{is_none}
use Rattle.hfs_fields.specs.declared.mdb.Mdb.{Mdb}
use Rattle.hfs_check.specs.Faults.{◌or_fault◌, mdb_fault, trees_fault, records_fault}
use Rattle.hfs_check.specs.Parts.{Blocks, mdb_in}
use Rattle.hfs_repair.specs.Fields.{PlacedNumber}
use Rattle.hfs_repair.specs.Opened.{extents_of, catalog_file_of, catalog_nodes_of, catalog_in_of, are_records_right}
use Rattle.hfs_repair.specs.Placed.{is_wrong, all_placed, placed_in}

-- the checks before those of counts find nothing in so many blocks
unfoldable pub are_blocks_mendable : ℕ → Blocks → Bool
are_blocks_mendable total blocks = is_none (mdb_fault total (mdb_in blocks) or_fault trees_fault true true blocks or_fault records_fault blocks)

unfoldable pub wrong_in_blocks : ℕ → Blocks → List PlacedNumber
wrong_in_blocks total blocks = if are_blocks_mendable total blocks then filter is_wrong (placed_in blocks) else []

-- the counted numbers of a volume with this master directory block
unfoldable pub placed_of : Blocks → Mdb → List PlacedNumber
placed_of blocks mdb = all_placed blocks mdb (extents_of blocks mdb) (catalog_file_of blocks mdb) (catalog_nodes_of blocks mdb) (catalog_in_of blocks mdb)

-- the wrong ones of a volume's numbers, where the trees are right except for their counts; none where the catalog's records aren't
abbrev pub wrong_behind_trees : Blocks → Mdb → List PlacedNumber
wrong_behind_trees blocks mdb = if are_records_right blocks mdb then filter is_wrong (placed_of blocks mdb) else []
