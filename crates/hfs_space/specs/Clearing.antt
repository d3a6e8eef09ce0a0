-- Zeros over part of a fork: runs of zeros over the volume's blocks, and a patch over these.
use Rattle.std.specs.Prelude.{◌≡◌, ℕ, List}
use Rattle.hfs_fields.specs.declared.extent.Extent.{Extent}
use Rattle.hfs_fields.specs.declared.mdb.Mdb.{Mdb}
use Rattle.hfs_blocks.specs.declared.run.Run.{Run}
use Rattle.hfs_blocks.specs.Layers.{Numbered, changes, over}
use Rattle.hfs_space.specs.ForkLaws.{block_numbers}
use Rattle.hfs_space.specs.ForkLengths.{all_bytes}
use Rattle.hfs_space.specs.Parts.{with_part, zeros}
use Rattle.hfs_space.specs.Written.{KeepsBeside}
use Rattle.hfs_space.specs.Zeros.{zero_blocks}

-- these blocks have the bytes of the extents' blocks as the others have them, with `count` zeros in place of those from `offset` on
abbrev pub HaveZeros : Mdb → List Extent → ℕ → ℕ → (ℕ → List ℕ) → (ℕ → List ℕ) → Type 0
HaveZeros mdb extents offset count old new = all_bytes new mdb extents ≡ with_part offset (zeros count) (all_bytes old mdb extents)

-- and no other block has changed but those of the extents that have one of these bytes
abbrev pub KeepOthers : Mdb → List Extent → ℕ → ℕ → (ℕ → List ℕ) → (ℕ → List ℕ) → Type 0
KeepOthers mdb extents offset count old new = KeepsBeside (block_numbers mdb extents) offset count old new

-- the blocks of runs of zeros over those of a volume
abbrev pub zeroed : List Run → (ℕ → List ℕ) → ℕ → List ℕ
zeroed runs below = over (zero_blocks runs) below

-- and a patch over these
abbrev pub patched : Numbered → List Run → (ℕ → List ℕ) → ℕ → List ℕ
patched patch runs below = over (changes patch) (zeroed runs below)
