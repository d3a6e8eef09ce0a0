-- Volumes of which the working blocks were read.
use Rattle.std.specs.Prelude.{◌≡◌, ◌≤◌, ◌/◌, ℕ, List, Option, None}
use Rattle.hfs_fields.specs.declared.mdb.Mdb.{Mdb}
use Rattle.hfs_blocks.specs.Blocks.{AreRunsWithin}
use Rattle.hfs_blocks.specs.Layers.{Numbered, changes, AreWithin}
use Rattle.hfs_check.specs.declared.trees.VolumeTrees.{VolumeTrees}
use Rattle.hfs_check.specs.Parts.{mdb_in}
use Rattle.hfs_check.specs.Sound.{AreBlocksSound, IsSound}
use Rattle.hfs_check.specs.Trees.{HasTrees}
use Rattle.hfs_image.specs.Gathered.{IsOfKnown}
use Rattle.hfs_image.specs.Known.{OfKnown}
use Rattle.hfs_source.specs.Seen.{IsSeen}
use Rattle.hfs_source.specs.Sparse.{sparse}
use Rattle.hfs_copy.specs.declared.opening.WorkingVolume.{WorkingVolume}
use Rattle.hfs_volume.specs.Image.{copy_of}
use Rattle.hfs_copy.specs.Working.{HasWorking, IsWorkingCopy}

-- both trees lie among so many blocks
pub record LieWithin (total : ℕ) (trees : VolumeTrees) : Type 0 where
  pub extents : AreRunsWithin trees.extents.items total
  pub catalog : AreRunsWithin trees.catalog.items total

-- these blocks are the working ones of an image of so many blocks, whose bytes may be known; they are those of a sound volume, with this
-- master directory block and these trees
pub record IsWorking (known : Option (List ℕ)) (total : ℕ) (read : Numbered) (count : ℕ) (mdb : Mdb) (found : VolumeTrees) : Type 0 where
  pub whole : count ≡ total
  pub working : HasWorking total read
  pub within : AreWithin (changes read) total
  pub of : IsOfKnown known read
  pub sound : AreBlocksSound total (sparse read)
  pub directory : mdb ≡ mdb_in (sparse read)
  pub trees : HasTrees total (sparse read) found

-- the volume is opened, with what it has of the image
abbrev pub IsWorkingOf : Option (List ℕ) → ℕ → WorkingVolume → Type 0
IsWorkingOf known total = λ volume. IsWorking known total volume.read volume.count volume.sound.mdb volume.sound.trees

-- where the image's bytes are known, and are so many, what was read of it is a copy over which calls can be made
abbrev pub IsCopyOf : Option (List ℕ) → ℕ → WorkingVolume → Type 0
IsCopyOf known len = λ volume. OfKnown known len (IsWorkingCopy (copy_of volume.read len))

-- the working blocks of an image of so many bytes were read, and what was read is of each of these images
pub record IsRunnable (Holds : List ℕ → Type 0) (len : ℕ) (working : WorkingVolume) : Type 0 where
  pub is : IsWorkingOf None (len / 512) working
  pub seen : IsSeen Holds working.read
  pub sound : IsSound (copy_of working.read len)
  pub small : len ≤ 2147483648
