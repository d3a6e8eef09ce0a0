-- Volumes of which only the needed blocks were read.
use Rattle.std.specs.Prelude.{◌≡◌, ℕ, List, Option, Some, None, IfSome}
use Rattle.hfs_fields.specs.declared.mdb.Mdb.{Mdb}
use Rattle.hfs_blocks.specs.Blocks.{block_at}
use Rattle.hfs_blocks.specs.Layers.{Numbered}
use Rattle.hfs_check.specs.declared.mount_fault.MountFault.{MountFault}
use Rattle.hfs_check.specs.declared.trees.VolumeTrees.{VolumeTrees}
use Rattle.hfs_check.specs.Faults.{blocks_fault, fault_of}
use Rattle.hfs_check.specs.Parts.{mdb_in}
use Rattle.hfs_check.specs.Sound.{AreBlocksSound}
use Rattle.hfs_check.specs.Trees.{HasTrees}
use Rattle.hfs_source.specs.Sparse.{sparse}
use Rattle.hfs_image.specs.declared.opening.NeededFault.{NeededFault}
use Rattle.hfs_image.specs.declared.opening.NeededVolume.{NeededVolume}
use Rattle.hfs_image.specs.declared.opening.NeededFault.TheVariants.{Refused}
use Rattle.hfs_image.specs.Gathered.{HasNeeded, IsOfKnown}
use Rattle.hfs_image.specs.Known.{OfKnown}

-- these blocks are the needed ones of an image of so many blocks, whose bytes may be known; they are those of a sound volume, with this
-- master directory block and these trees
pub record IsOpened (known : Option (List ℕ)) (total : ℕ) (read : Numbered) (count : ℕ) (mdb : Mdb) (found : VolumeTrees) : Type 0 where
  pub whole : count ≡ total
  pub needed : HasNeeded total read
  pub of : IsOfKnown known read
  pub sound : AreBlocksSound total (sparse read)
  pub directory : mdb ≡ mdb_in (sparse read)
  pub trees : HasTrees total (sparse read) found

-- where so many blocks are refused, it is for their first fault
abbrev pub AreRefusedFor : Option (List ℕ) → ℕ → NeededFault → Type 0
AreRefusedFor known total fault = (why : MountFault) → fault ≡ Refused why → IfSome known (λ bytes. blocks_fault total (block_at bytes) ≡ Some why)

-- where an image of so many bytes is refused, it is for its first fault
abbrev pub IsRefusedFor : Option (List ℕ) → ℕ → NeededFault → Type 0
IsRefusedFor known len fault = (why : MountFault) → fault ≡ Refused why → OfKnown known len (λ bytes. fault_of bytes ≡ Some why)

-- where the image's bytes are known, and are so many, it has no fault
abbrev pub IsSoundOf : Option (List ℕ) → ℕ → Type 0
IsSoundOf known len = OfKnown known len (λ bytes. fault_of bytes ≡ None)

-- the volume is opened, with what it has of the image
abbrev pub IsOpenedOf : Option (List ℕ) → ℕ → NeededVolume → Type 0
IsOpenedOf known total = λ volume. IsOpened known total volume.read volume.count volume.sound.mdb volume.sound.trees
