-- What was found of an image.
use Rattle.std.specs.Prelude.{◌≡◌, ℕ, List, Some}
use Rattle.hfs_blocks.specs.Blocks.{block_count}
use Rattle.hfs_remains_forks.specs.Verdicts.{shares_of}
use Rattle.hfs_remains_forks.specs.Finds.{found_catalog_file, found_directory, found_extents_file, found_items, found_overflow, found_things}
use Rattle.hfs_rescue_items.specs.declared.found.Found.{Found}

-- this was found of an image by its directory, where forks of so many bytes are taken at most
pub record IsFoundOf (image : List ℕ) (limit : ℕ) (found : Found) : Type 0 where
  pub directory_is : found_directory image ≡ Some found.mdb.now
  pub total_is : found.salvage.now.trees.total ≡ block_count image
  pub overflow_is : found.salvage.now.trees.overflow.now ≡ found_overflow image found.mdb.now
  pub extents_file_is : found.salvage.now.trees.extents_file.now ≡ found_extents_file image found.mdb.now
  pub catalog_file_is : found.salvage.now.trees.catalog_file.now ≡ found_catalog_file image found.mdb.now
  pub items_are : found.items.now ≡ found_items image found.mdb.now
  pub places_are : found.places.now ≡ found_things image found.mdb.now
  pub shares_are : found.salvage.now.shares ≡ shares_of (found_overflow image found.mdb.now) found.mdb.now limit (found_items image found.mdb.now)

-- a fact about what was found of an image
abbrev pub OfFound : List ℕ → ℕ → (Found → Type 0) → Type 0
OfFound image limit Fact = (found : Found) → IsFoundOf image limit found → Fact found
