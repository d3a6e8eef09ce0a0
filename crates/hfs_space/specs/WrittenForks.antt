-- Bytes written over the blocks of a fork.
use Rattle.std.specs.Prelude.{◌≡◌, ℕ, List}
use Rattle.hfs_fields.specs.declared.extent.Extent.{Extent}
use Rattle.hfs_fields.specs.declared.mdb.Mdb.{Mdb}
use Rattle.hfs_blocks.specs.Layers.{Numbered, changes, over}
use Rattle.hfs_space.specs.ForkLaws.{block_numbers}
use Rattle.hfs_space.specs.ForkLengths.{all_bytes}
use Rattle.hfs_space.specs.Parts.{with_part}
use Rattle.hfs_space.specs.Written.{KeepsBesideOver}

-- over these blocks a patch shows the bytes of the extents' blocks as the other patch showed them, with a part in their place
abbrev pub HasWritten : (ℕ → List ℕ) → Mdb → List Extent → ℕ → List ℕ → Numbered → Numbered → Type 0
HasWritten below mdb extents offset part old new =
    all_bytes (over (changes new) below) mdb extents ≡ with_part offset part (all_bytes (over (changes old) below) mdb extents)

-- over these blocks a patch shows no other block changed but those of the extents that have one of these bytes
abbrev pub KeepsOtherBlocks : (ℕ → List ℕ) → Mdb → List Extent → ℕ → ℕ → Numbered → Numbered → Type 0
KeepsOtherBlocks below mdb extents offset count old new = KeepsBesideOver below (block_numbers mdb extents) offset count old new
