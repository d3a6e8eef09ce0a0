-- Where the catalog of a volume lies that is right except for its counts.
use Rattle.std.specs.Prelude.{ℕ, Bool, ◌&&◌, Option}
use Rattle.std.proofs.Common.{Vec, Global}
use Rattle.hfs_fields.specs.declared.mdb.Mdb.{Mdb}
use Rattle.hfs_blocks.specs.declared.run.Run.{Run}
use Rattle.hfs_space.specs.Faults.{is_tree_file}
use Rattle.hfs_space.specs.TreeFiles.{tree_blocks}
use Rattle.hfs_check.specs.Parts.{Blocks}
use Rattle.hfs_image.specs.Finding.{FindsWhere}
use Rattle.hfs_repair.specs.Opened.{is_extents_right, catalog_file_of}

-- the extents tree is right except for its two counts, and the catalog file is right
abbrev pub has_catalog : Blocks → Mdb → Bool
has_catalog blocks mdb = is_extents_right blocks mdb && is_tree_file mdb (catalog_file_of blocks mdb) mdb.catalog_file_size

-- the runs of the catalog then, and else none
abbrev pub FindsCatalogRuns : ℕ → Blocks → Mdb → Option (Vec Run Global) → Type 0
FindsCatalogRuns total blocks mdb found =
    FindsWhere (has_catalog blocks mdb) total (tree_blocks mdb (catalog_file_of blocks mdb) mdb.catalog_file_size) found
