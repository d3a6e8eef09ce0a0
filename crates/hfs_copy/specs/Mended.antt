-- What the blocks that were read of an image decide of its counted numbers and of its faults, with changed blocks laid over it.
use Rattle.std.specs.Prelude.{◌≡◌, ℕ, List, length, Option}
use Rattle.hfs_blocks.specs.Blocks.{block_at, block_count}
use Rattle.hfs_blocks.specs.Layers.{Numbered, changes, over, AreWithin}
use Rattle.hfs_check.specs.declared.mount_fault.MountFault.{MountFault}
use Rattle.hfs_check.specs.Faults.{blocks_fault, fault_of}
use Rattle.hfs_check.specs.Parts.{Blocks}
use Rattle.hfs_repair.specs.declared.byte_put.BytePut.{BytePut}
use Rattle.hfs_repair.specs.declared.fixed.Fix.{Fix}
use Rattle.hfs_repair.specs.Fixes.{AreFixes}
use Rattle.hfs_repair.specs.Puts.{put_all, puts_of}
use Rattle.hfs_repair.specs.Repair.{repair, wrong_in}
use Rattle.hfs_repair.specs.Wrong.{wrong_in_blocks}
use Rattle.hfs_source.specs.Images.{OfEach}
use Rattle.hfs_source.specs.Sparse.{IsOf, sparse}
use Rattle.hfs_volume.specs.Image.{patched}
use Rattle.hfs_copy.specs.declared.mending.Mended.{Mended}

-- ---- what was read

-- volumes of so many blocks have the same wrong numbers and the same first fault
pub record DecideAlike (total : ℕ) (old new : Blocks) : Type 0 where
  pub numbers : wrong_in_blocks total new ≡ wrong_in_blocks total old
  pub fault : blocks_fault total new ≡ blocks_fault total old

-- the blocks of these, with changed ones in place of their own
abbrev pub laid_over_read : Numbered → Numbered → Blocks
laid_over_read changed read = over (changes changed) (sparse read)

abbrev pub laid_over_image : Numbered → List ℕ → Blocks
laid_over_image changed image = over (changes changed) (block_at image)

-- of each image that has what was read, this decides what the image does, with these changed blocks
abbrev pub DecidesFor : ℕ → Numbered → Numbered → Type 0
DecidesFor total changed read =
    (image : List ℕ) → IsOf image read → DecideAlike total (laid_over_read changed read) (laid_over_image changed image)

-- ---- the bytes that mend

-- of each image that has what was read, and has so many blocks, the new patch makes what the old one makes, with these bytes put into that
abbrev pub PutsBytes : Numbered → ℕ → List BytePut → Numbered → Numbered → Type 0
PutsBytes read total puts old new =
    (image : List ℕ) → IsOf image read → block_count image ≡ total → AreWithin (changes old) total → patched new image ≡ put_all puts (patched old image)

-- ---- the answer

-- with these changed blocks the image is the repaired one; these are the numbers that were wrong, and this is the first fault that is left
pub record IsMendedBy (image : List ℕ) (patch : Numbered) (told : List Fix) (left : Option MountFault) : Type 0 where
  pub mended : patched patch image ≡ repair image
  pub fixes : AreFixes (wrong_in image) told
  pub fault : left ≡ fault_of (repair image)

-- with these changed blocks an image of so many blocks has each wrong number as it is counted; these are the numbers, and this is the first
-- fault of its blocks then
pub record MendsBlocks (total : ℕ) (image : List ℕ) (patch : Numbered) (told : List Fix) (left : Option MountFault) : Type 0 where
  pub puts : patched patch image ≡ put_all (puts_of (wrong_in_blocks total (block_at image))) image
  pub fixes : AreFixes (wrong_in_blocks total (block_at image)) told
  pub fault : left ≡ blocks_fault total (laid_over_image patch image)

-- of each image that has what was read this is the first fault of its blocks, with these changed ones
abbrev pub IsFaultOver : Numbered → ℕ → Numbered → Option MountFault → Type 0
IsFaultOver read total changed fault = (image : List ℕ) → IsOf image read → fault ≡ blocks_fault total (laid_over_image changed image)

-- each image that holds, and has so many blocks, is mended so
abbrev pub MendsBlocksOf : (List ℕ → Type 0) → ℕ → Mended → Type 0
MendsBlocksOf Holds total = λ mended.
    OfEach Holds (λ image. block_count image ≡ total → MendsBlocks total image mended.patch mended.fixes.items mended.fault)

-- of each image that holds, and has so many bytes, this is what a repair makes and prints
abbrev pub IsMendedOf : (List ℕ → Type 0) → ℕ → Mended → Type 0
IsMendedOf Holds len = λ mended. OfEach Holds (λ image. length image ≡ len → IsMendedBy image mended.patch mended.fixes.items mended.fault)
