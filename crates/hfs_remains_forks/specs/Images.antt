-- What is found of an image, with what is taken of the forks of its items, and their bytes.
use Rattle.std.specs.Prelude.{◌≡◌, ℕ, ◌*◌, Bool, ◌++◌, not, List, length, Option}
use Rattle.hfs_fields.specs.declared.mdb.Mdb.{Mdb}
use Rattle.hfs_blocks.specs.Blocks.{block_count}
use Rattle.hfs_space.specs.Extents.{Overflow}
use Rattle.hfs_remains_places.specs.declared.things.Thing.{Thing}
use Rattle.hfs_remains.specs.TreeFiles.{FileBlocks}
use Rattle.hfs_remains_forks.specs.declared.shares.FileShares.{FileShares}
use Rattle.hfs_remains_forks.specs.declared.shares.Share.{Share}
use Rattle.hfs_remains_forks.specs.ForkBytes.{share_bytes}
use Rattle.hfs_remains_forks.specs.Verdicts.{Salvaged, items_used, shares_of, tree_used, verdict_of}
use Rattle.hfs_remains_places.specs.declared.verdict.Verdict.{Verdict}
use Rattle.hfs_remains_forks.specs.declared.finds.Finds.{Finds}
use Rattle.hfs_remains_forks.specs.Finds.{found_catalog_file, found_extents_file, found_items, found_overflow, found_things}

-- ---- all forks

-- an image, and what is found of it: its directory, trees, items in their places, and what is taken of the items
pub record FoundImage : Type 0 where
  pub image : List ℕ
  pub total : ℕ
  pub mdb : Mdb
  pub overflow : Overflow
  pub extents_file : FileBlocks
  pub catalog_file : FileBlocks
  pub things : List Thing
  pub shares : List (Option FileShares)

-- by this directory, where forks of four times the image's bytes are taken at most
abbrev pub found_image : List ℕ → Mdb → FoundImage
found_image image mdb = record {
  image = image;
  total = block_count image;
  mdb = mdb;
  overflow = found_overflow image mdb;
  extents_file = found_extents_file image mdb;
  catalog_file = found_catalog_file image mdb;
  things = found_things image mdb;
  shares = shares_of (found_overflow image mdb) mdb (4 * length image) (found_items image mdb);
}

-- the blocks that are owned, once for each owner: by the trees' files, and by the forks of all items, or of those alone that aren't old
abbrev pub owned : FoundImage → Bool → FileBlocks
owned f young =
    tree_used f.mdb f.extents_file f.mdb.extents_file_size ++ tree_used f.mdb f.catalog_file f.mdb.catalog_file_size
    ++ items_used f.total f.overflow f.mdb young f.shares

-- the bytes that are taken of a fork, and what is said of it
abbrev pub taken_bytes : FoundImage → Share → List ℕ
taken_bytes f share = share_bytes f.image f.total f.overflow f.mdb share

abbrev pub said_of : FoundImage → FileShares → Share → Verdict
said_of f file share = verdict_of f.total f.overflow f.mdb (owned f (not file.old)) share

-- ---- what is kept of it

-- an image, the places of what is found of it, and what is taken, as they are kept
abbrev pub kept_image : List ℕ → List Thing → Salvaged → FoundImage
kept_image image things salvage = record {
  image = image;
  total = salvage.trees.total;
  mdb = salvage.trees.mdb.now;
  overflow = salvage.trees.overflow.now;
  extents_file = salvage.trees.extents_file.now;
  catalog_file = salvage.trees.catalog_file.now;
  things = things;
  shares = salvage.shares;
}

-- the trees that were found, and what is taken of the items under a limit
pub record IsSalvageOf (finds : Finds) (limit : ℕ) (salvage : Salvaged) : Type 0 where
  pub total_is : salvage.trees.total ≡ finds.total
  pub mdb_is : salvage.trees.mdb.now ≡ finds.mdb
  pub overflow_is : salvage.trees.overflow.now ≡ finds.overflow.items
  pub extents_file_is : salvage.trees.extents_file.now ≡ finds.extents_file.items
  pub catalog_file_is : salvage.trees.catalog_file.now ≡ finds.catalog_file.items
  pub shares_are : salvage.shares ≡ shares_of finds.overflow.items finds.mdb limit finds.items.items
