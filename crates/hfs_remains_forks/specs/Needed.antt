-- The blocks of an image that are needed to find what there is of it, where no others are looked at.
use Rattle.std.specs.Prelude.{◌≡◌, ℕ, ◌-◌, Bool, true, false, List, [], ◌∷◌, ◌++◌, Option, Some}
use Rattle.std.specs.List.{flat_map, range_with_len}
use Rattle.std.specs.Option.{option_map, option_map_or}
use Rattle.hfs_fields.specs.declared.mdb.Mdb.{Mdb}
use Rattle.hfs_space.specs.Forks.{blocks_each}
use Rattle.hfs_check.specs.Parts.{Blocks}
use Rattle.hfs_image.specs.Needed.{AgreeOn}
use Rattle.hfs_remains.specs.Allocation.{start_of}
use Rattle.hfs_remains.specs.CatalogRecords.{looks_elsewhere}
use Rattle.hfs_remains.specs.Directory.{beginning_of, directory_in, mdb_at, usual_directory}
use Rattle.hfs_remains.specs.Remains.{catalog_file_blocks, catalog_file_extents, extents_file_blocks}
use Rattle.hfs_remains.specs.TreeFiles.{FileBlocks}
use Rattle.hfs_remains_forks.specs.declared.finds.Finds.{Finds}
use Rattle.hfs_remains_forks.specs.Finds.{AreFindsBy}

-- ---- the blocks, by their numbers

-- a block that there may be
abbrev pub listed : Option ℕ → List ℕ
listed place = option_map_or (λ n. n ∷ []) place []

-- those that say whether a directory with these fields has its trees: the blocks in which they begin
abbrev pub needed_of_trees : ℕ → Mdb → List ℕ
needed_of_trees total mdb = listed (beginning_of total mdb mdb.extents_file) ++ listed (beginning_of total mdb mdb.catalog_file)

-- those that say whether block n serves
abbrev pub needed_at : ℕ → Blocks → ℕ → List ℕ
needed_at total blocks n = n ∷ needed_of_trees total (mdb_at blocks n)

-- those that say which of the two blocks serves in which a directory belongs
abbrev pub needed_of_places : ℕ → Blocks → List ℕ
needed_of_places total blocks = needed_at total blocks 2 ++ needed_at total blocks (total - 2)

-- those of an allocation block
abbrev pub blocks_of_place : Mdb → Option ℕ → List ℕ
blocks_of_place mdb place = option_map_or (λ b. range_with_len (start_of mdb b) (blocks_each mdb)) place []

-- those of a tree's file, as far as they are there
abbrev pub needed_of_file : Mdb → FileBlocks → List ℕ
needed_of_file mdb file = flat_map (blocks_of_place mdb) file

-- those of both trees' files
abbrev pub needed_of_files : ℕ → Blocks → Mdb → List ℕ
needed_of_files total blocks mdb = needed_of_file mdb (extents_file_blocks total mdb) ++ needed_of_file mdb (catalog_file_blocks total blocks mdb)

-- by the directory that was found in its place
abbrev pub needed_by : ℕ → Blocks → Option ℕ → List ℕ
needed_by total blocks directory = option_map_or (λ n. needed_of_files total blocks (mdb_at blocks n)) directory []

-- of so many blocks
unfoldable pub needed_of_finds : ℕ → Blocks → List ℕ
needed_of_finds total blocks = needed_of_places total blocks ++ needed_by total blocks (usual_directory total blocks)

-- ---- where others are looked at

-- the catalog does not pass its check and is lacking
abbrev pub is_elsewhere : ℕ → Blocks → Mdb → Bool
is_elsewhere total blocks mdb = looks_elsewhere blocks mdb (catalog_file_extents total blocks mdb) (catalog_file_blocks total blocks mdb)

-- by this directory; and where there is none in its place
abbrev pub is_elsewhere_by : ℕ → Blocks → Option ℕ → Bool
is_elsewhere_by total blocks directory = option_map_or (λ n. is_elsewhere total blocks (mdb_at blocks n)) directory true

-- of so many blocks
unfoldable pub wants_all : ℕ → Blocks → Bool
wants_all total blocks = is_elsewhere_by total blocks (usual_directory total blocks)

-- ---- the law

-- what is found by the directory, with its fields
pub record AreFound (total : ℕ) (blocks : Blocks) (finds : Finds) : Type 0 where
  pub mdb : option_map (mdb_at blocks) (directory_in total blocks) ≡ Some finds.mdb
  pub are : AreFindsBy (directory_in total blocks) total blocks finds

-- both need other blocks or none does, and then the same is found in both
pub record FindSame (total : ℕ) (old new : Blocks) : Type 0 where
  pub all : wants_all total new ≡ wants_all total old
  pub found : wants_all total old ≡ false → (finds : Finds) → AreFound total old finds → AreFound total new finds

-- what is found in so many blocks, where no others are looked at, is what is found in blocks that agree on those that the first need
abbrev pub NeededFindSame : Type 0
NeededFindSame = (total : ℕ) (old new : Blocks) → AgreeOn (needed_of_finds total old) old new → FindSame total old new
