-- What holds of the checks of extents and of space. Each statement is what a function of src/laws.rt ensures.
use Rattle.std.specs.Prelude.{◌≡◌, ℕ, ◌<◌, ◌↔◌, true, List, None}
use Rattle.hfs_fields.specs.declared.mdb.Mdb.{Mdb}
use Rattle.hfs_fields.specs.declared.extent.Extent.{Extent}
use Rattle.hfs_fields.specs.declared.key.CatKey.{CatKey}
use Rattle.hfs_btree.specs.Pairs.{Pairs}
use Rattle.hfs_fields.specs.Each.{Each}
use Rattle.hfs_space.specs.Extents.{Overflow}
use Rattle.hfs_space.specs.Owners.{catalog_fork, extents_in, owned_blocks}
use Rattle.hfs_space.specs.Sound.{IsTreeFile, AreForksSound, IsSpaceSound}
use Rattle.hfs_space.specs.Faults.{is_tree_file, fork_fault, space_fault}

-- a check finds no fault exactly where its facts hold

abbrev pub NoTreeFileFault : Type 0
NoTreeFileFault = (mdb : Mdb) (extents : List Extent) (size : ℕ) → (is_tree_file mdb extents size ≡ true) ↔ IsTreeFile mdb extents size

abbrev pub NoForkFault : Type 0
NoForkFault = (mdb : Mdb) (overflow : Overflow) (catalog : Pairs CatKey) → (fork_fault mdb overflow catalog ≡ None) ↔ AreForksSound mdb overflow catalog

-- the blocks are among the volume's
abbrev pub AreBlocksWithin : Mdb → List ℕ → Type 0
AreBlocksWithin mdb owned = Each (λ b. b < mdb.allocation_blocks) owned

abbrev pub NoSpaceFault : Type 0
NoSpaceFault =
    (blocks : ℕ → List ℕ) (mdb : Mdb) (owned : List ℕ) → AreBlocksWithin mdb owned → (space_fault blocks mdb owned ≡ None) ↔ IsSpaceSound blocks mdb owned

-- where both trees' files and all forks are sound, the blocks that somebody owns are among the volume's
abbrev pub OwnedAreWithin : Type 0
OwnedAreWithin =
    (mdb : Mdb) (overflow : Overflow) (catalog : Pairs CatKey)
    → IsTreeFile mdb mdb.extents_file mdb.extents_file_size
    → IsTreeFile mdb (extents_in overflow (catalog_fork mdb)) mdb.catalog_file_size
    → AreForksSound mdb overflow catalog
    → AreBlocksWithin mdb (owned_blocks mdb overflow catalog)
