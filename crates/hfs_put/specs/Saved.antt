-- A list put on an image by way of a copy that has the image's working blocks. Each law is what a function of src/laws.rt ensures.
use Rattle.std.specs.Prelude.{◌≡◌, ◌≢◌, ℕ, List, [], ◌++◌, IsSome, Ok}
use Rattle.hfs_fields.specs.Each.{Each}
use Rattle.hfs_blocks.specs.Blocks.{block_at, block_count}
use Rattle.hfs_blocks.specs.Layers.{Numbered, changes, AreWithin}
use Rattle.hfs_model.specs.Alike.{AreAlike}
use Rattle.hfs_check.specs.Agree.{AgreesBut}
use Rattle.hfs_check.specs.VolumeOf.{volume_of}
use Rattle.hfs_put_plan.specs.Laws.{IsWhole}
use Rattle.hfs_put_plan.specs.Put.{Arrival, Put, put_volume, laid_volume, came}
use Rattle.hfs_volume.specs.Image.{patched}
use Rattle.hfs_copy.specs.Working.{IsWorkingCopy, CarriesOverBut}
use Rattle.hfs_put.specs.Forks.{AreForksLaid, blocks_of_files, has_forks}

-- these are the blocks in which the new bytes differ from the old ones
pub record IsDifference (patch : Numbered) (old new : List ℕ) : Type 0 where
  pub within : AreWithin (changes patch) (block_count old)
  pub makes : patched patch old ≡ new
  pub differ : (n : ℕ) → IsSome (changes patch n) → block_at new n ≢ block_at old n

-- the calls of the list that write no fork made this of the copy, with these IDs, and wrote these blocks of forks
pub record AreCallsMade (target now : ℕ) (arrivals : List Arrival) (ids written copy current : List ℕ) : Type 0 where
  pub laid : laid_volume (volume_of copy) target now arrivals ≡ Ok (record { volume = volume_of current; ids = ids })
  pub agrees : AgreesBut written copy current

-- The File Manager puts the list on the image's volume, with these IDs, and the saved image holds what it makes, except for the bytes of forks of files
-- that aren't of the list. It is sound, and the image's blocks stay except for these, which calls wrote, those of the files that were added,
-- and those in which calls keep the volume's own records.
pub record IsPut (target now : ℕ) (arrivals : List Arrival) (ids written image saved : List ℕ) : Type 0 where
  pub put : Put
  pub made : put_volume (volume_of image) target now arrivals ≡ Ok put
  pub ids_are : put.ids ≡ ids
  pub volume : AreAlike (has_forks (came arrivals ids [])) put.volume (volume_of saved)
  pub agrees : AgreesBut (written ++ blocks_of_files (has_forks (came arrivals ids [])) (block_at saved)) image saved

-- ---- the laws

abbrev pub DifferencesCarryOver : Type 0
DifferencesCarryOver =
    (copy current image written : List ℕ) (patch : Numbered) → IsWorkingCopy copy image → AgreesBut written copy current → IsDifference patch copy current
    → CarriesOverBut written patch copy image

abbrev pub SavedIsPut : Type 0
SavedIsPut =
    (target now : ℕ) (arrivals : List Arrival) (ids written copy current image saved : List ℕ) (patch : Numbered) → IsWorkingCopy copy image → Each IsWhole arrivals
    → AreCallsMade target now arrivals ids written copy current → IsDifference patch copy current
    → AreForksLaid (came arrivals ids []) (block_at current) (patched patch image) saved → IsPut target now arrivals ids written image saved
