-- Of an image that has a directory something is found.
use Rattle.std.proofs.Common.{◌≡◌, ℕ, ◌≤◌, List, Option, None, Some, refl, sym, subst, arith}
use Rattle.std.specs.Borrow.{Bor}
use Rattle.std.specs.Option.{option_map}
use Rattle.hfs_blocks.specs.Blocks.{block_at, block_count}
use Rattle.hfs_fields.specs.declared.extent.Extent.{Extent}
use Rattle.hfs_fields.specs.declared.mdb.Mdb.{Mdb}
use Rattle.hfs_remains_forks.specs.Finds.{found_catalog_file, found_extents_file, found_items, found_overflow, found_things}
use Rattle.hfs_remains_forks.specs.declared.trees.Trees.{Trees}
use Rattle.hfs_remains_forks.specs.Verdicts.{shares_of}
use Rattle.hfs_remains.specs.Allocation.{is_there}
use Rattle.hfs_remains.specs.Directory.{directory_of, mdb_at}
use Rattle.hfs_remains.specs.TreeFiles.{AreThere, file_blocks}
use Rattle.hfs_remains.proofs.FileLemmas.{there-first}
use Rattle.hfs_remains.proofs.LawsProved.{directories_are_read}
use Rattle.hfs_rescue_items.specs.declared.found.Found.{Found}
use Rattle.hfs_space.specs.Extents.{extent_blocks}
use Rattle.hfs_space.specs.Forks.{blocks_each}
use Rattle.hfs_word_rescue.proofs.FactLemmas.{some-same}
use Rattle.hfs_word_rescue.specs.Found.{IsFoundOf}
use Rattle.hfs_word_rescue.specs.Laws.{RemainsAreFound}

file-there : (total : ℕ) (mdb : Mdb) (extents : List Extent) → AreThere total mdb (file_blocks total mdb extents)
unfolding file_blocks
file-there total mdb extents = there-first (is_there total mdb) (extent_blocks extents)

size-of : (mdb : Mdb) → 1 ≤ blocks_each mdb → 512 ≤ mdb.allocation_block_size
size-of mdb some = omega (arith, some)

abbrev lent : {X : Type 0} → X → Bor X
lent x = record { ref_ptr = (0, 0); now = x }

module _ (image : List ℕ) (limit : ℕ) (mdb : Mdb) (some : 1 ≤ blocks_each mdb) where
  abbrev trees : Trees
  trees = record {
    total = block_count image;
    mdb = lent mdb;
    overflow = lent (found_overflow image mdb);
    extents_file = lent (found_extents_file image mdb);
    catalog_file = lent (found_catalog_file image mdb);
    size = size-of mdb some;
    extents_there = file-there (block_count image) mdb _;
    catalog_there = file-there (block_count image) mdb _;
  }

  abbrev found : Found
  found = record {
    mdb = lent mdb;
    items = lent (found_items image mdb);
    places = lent (found_things image mdb);
    salvage = lent (record { trees = trees; shares = shares_of (found_overflow image mdb) mdb limit (found_items image mdb) });
    mdb_is = refl;
  }

  found-is : option_map (mdb_at (block_at image)) (directory_of image) ≡ Some mdb → IsFoundOf image limit found
  found-is is = record {
    directory_is = is;
    total_is = refl;
    overflow_is = refl;
    extents_file_is = refl;
    catalog_file_is = refl;
    items_are = refl;
    places_are = refl;
    shares_are = refl;
  }

pub found-there : RemainsAreFound
found-there image limit mdb bytes is = by (directory_of image) refl is
  where
    by : (o : Option ℕ) → directory_of image ≡ o → option_map (mdb_at (block_at image)) o ≡ Some mdb → (found : Found) × IsFoundOf image limit found
    by None there none = cc
    by (Some n) there same =
        let some : 1 ≤ blocks_each mdb =
        subst (λ (m : Mdb). 1 ≤ blocks_each m) (some-same (mdb_at (block_at image) n) mdb same) (directories_are_read image n bytes there).0.some in
        (found image limit mdb some, found-is image limit mdb some is)
