-- The extents that somebody owns, part after part.
use Rattle.std.proofs.Common.{◌≡◌, List, ◌++◌, ap, ◌∙◌}
use Rattle.std.specs.List.{flat_map}
use Rattle.hfs_fields.specs.declared.mdb.Mdb.{Mdb}
use Rattle.hfs_fields.specs.declared.extent.Extent.{Extent}
use Rattle.hfs_fields.specs.declared.key.CatKey.{CatKey}
use Rattle.hfs_btree.specs.Pairs.{Pairs}
use Rattle.hfs_space.specs.declared.files.CatalogFile.{CatalogFile}
use Rattle.hfs_space.specs.Extents.{Overflow, fork_extents}
use Rattle.hfs_space.specs.Owners.{catalog_fork, extents_in, bad_extents, owned_extents}
use Rattle.hfs_space.specs.Runs.{files_in, forks_in}
use Rattle.hfs_space.proofs.ForkFaults.{forks-same}

pub owned-all : (mdb : Mdb) (overflow records : Overflow) (files : List CatalogFile) (catalog : Pairs CatKey) (own forks trees all : List Extent) → files ≡ files_in 0 catalog
    → own ≡ fork_extents overflow 4 0 mdb.catalog_file → forks ≡ own ++ flat_map (extents_in overflow) (forks_in files) → trees ≡ forks ++ mdb.extents_file
    → all ≡ trees ++ bad_extents records → records ≡ overflow → all ≡ owned_extents mdb overflow catalog
unfolding owned_extents catalog_fork
owned-all mdb overflow records files catalog own forks trees all are is_own is_forks is_trees is_all same =
    let named = ap forks_in are ∙ forks-same 0 catalog in
    is_all ∙ (λ i. (is_trees ∙ ap (λ l. l ++ mdb.extents_file) (is_forks ∙ (λ j. is_own j ++ flat_map (extents_in overflow) (named j)))) i ++ bad_extents (same i))
