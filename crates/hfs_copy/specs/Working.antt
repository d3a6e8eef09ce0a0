-- The blocks of a volume that calls read and write, but for the bytes of forks, and what follows where these alone were read of an image.
-- Each law is what a function of src/laws.rt ensures.
use Rattle.std.specs.Prelude.{◌≡◌, ℕ, ◌-◌, Bool, true, List, ◌∷◌, ◌++◌, length, IsSome}
use Rattle.hfs_model.specs.Alike.{AreAlike, no_file}
use Rattle.hfs_fields.specs.declared.file_record.FileRecord.{FileRecord}
use Rattle.hfs_fields.specs.Records.{is_file, item_id, file_record_of}
use Rattle.hfs_fields.specs.Each.{Each}
use Rattle.hfs_space.specs.declared.fork_kind.ForkKind.TheVariants.{Data, Resource}
use Rattle.hfs_catalog.specs.Records.{Record}
use Rattle.hfs_blocks.specs.Blocks.{block_at, block_count}
use Rattle.hfs_blocks.specs.Layers.{Numbered, changes, AreWithin}
use Rattle.hfs_btree.specs.Sound.{IsOther}
use Rattle.hfs_check.specs.Agree.{AgreesBut, bitmap_blocks}
use Rattle.hfs_check.specs.Parts.{Blocks, mdb_in, extents_blocks, catalog_blocks, catalog_in}
use Rattle.hfs_check.specs.Sound.{IsSound}
use Rattle.hfs_check.specs.VolumeOf.{contents_in, volume_of}
use Rattle.hfs_image.specs.Laws.{volume_with, blocks_of_fork}
use Rattle.hfs_image.specs.Needed.{AgreeOn}
use Rattle.hfs_source.specs.Sparse.{sparse, HasEach}
use Rattle.hfs_volume.specs.Image.{patched}

-- of a volume of so many blocks: the master directory block, its copy, the bitmap, and the files of both trees, free nodes and all
unfoldable pub working_blocks : ℕ → Blocks → List ℕ
working_blocks total blocks = 2 ∷ (total - 2) ∷ bitmap_blocks (mdb_in blocks) ++ (extents_blocks blocks ++ catalog_blocks blocks)

-- a sound copy of an image, which has the image's length and working blocks; its other blocks may be anything
pub record IsWorkingCopy (copy image : List ℕ) : Type 0 where
  pub sound : IsSound copy
  pub len : length image ≡ length copy
  pub same : AgreeOn (working_blocks (block_count copy) (block_at copy)) (block_at copy) (block_at image)

-- the bytes hold the volume that others hold, with the forks that they themselves have
abbrev pub HoldVolumeOf : List ℕ → List ℕ → Type 0
HoldVolumeOf others bytes = volume_of bytes ≡ volume_with (contents_in (block_at bytes)) (block_at others)

-- the blocks were changed in the copy as calls do, which wrote these blocks of forks; each other was changed where the copy had the image's
pub record AreChangesBut (written : List ℕ) (changed : Numbered) (copy image : List ℕ) : Type 0 where
  pub within : AreWithin (changes changed) (block_count copy)
  pub known : (n : ℕ) → IsSome (changes changed n) → Each (IsOther n) written → block_at image n ≡ block_at copy n
  pub agrees : AgreesBut written copy (patched changed copy)

-- the image is sound, and holds the copy's volume, but for the bytes of forks
pub record AnswersAs (copy image : List ℕ) : Type 0 where
  pub sound : IsSound image
  pub volume : HoldVolumeOf copy image
  pub alike : AreAlike no_file (volume_of copy) (volume_of image)

-- the image with the changed blocks agrees with the image, but for these blocks of forks; the changed copy has its working blocks; and it holds the
-- volume of that copy, but for the bytes of forks
pub record CarriesOverBut (written : List ℕ) (changed : Numbered) (copy image : List ℕ) : Type 0 where
  pub agrees : AgreesBut written image (patched changed image)
  pub copied : IsWorkingCopy (patched changed copy) (patched changed image)
  pub volume : HoldVolumeOf (patched changed copy) (patched changed image)
  pub alike : AreAlike no_file (volume_of (patched changed copy)) (volume_of (patched changed image))

-- both forks of a file have the same blocks in both
abbrev pub SameForks : Blocks → Blocks → FileRecord → Type 0
SameForks old new file =
    AgreeOn (blocks_of_fork old file.id Data file.«data») old new × AgreeOn (blocks_of_fork old file.id Resource file.resource) old new

-- so they have, where the record is that of a file with one of these IDs
abbrev pub HasForksOf : (ℕ → Bool) → Blocks → Blocks → Record → Type 0
HasForksOf keep old new r = is_file r.1 ≡ true → keep (item_id r.1) ≡ true → SameForks old new (file_record_of r.1)

-- ---- what was read

-- the working blocks were read of a volume of so many blocks
abbrev pub HasWorking : ℕ → Numbered → Type 0
HasWorking total read = HasEach read (working_blocks total (sparse read))

-- ---- the laws

abbrev pub CopiesAnswer : Type 0
CopiesAnswer = (copy image : List ℕ) → IsWorkingCopy copy image → AnswersAs copy image

-- where the copy has the forks of some files, too, these are the same in both volumes
abbrev pub KeptForksAreAlike : Type 0
KeptForksAreAlike =
    (keep : ℕ → Bool) (copy image : List ℕ) → IsWorkingCopy copy image → Each (HasForksOf keep (block_at copy) (block_at image)) (catalog_in (block_at copy))
    → AreAlike keep (volume_of copy) (volume_of image)

abbrev pub ChangesCarryOver : Type 0
ChangesCarryOver =
    (copy image written : List ℕ) (changed : Numbered) → IsWorkingCopy copy image → AreChangesBut written changed copy image → CarriesOverBut written changed copy image
