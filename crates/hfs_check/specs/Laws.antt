-- What holds of the checks of an image. Each statement is what a function of src/laws.rt ensures.
use Rattle.std.specs.Prelude.{◌≡◌, ℕ, ◌/◌, ◌↔◌, List, ◌++◌, slice_index, None}
use Rattle.hfs_blocks.specs.Blocks.{block_at}
use Rattle.hfs_model.specs.Lawful.{IsLawful}
use Rattle.hfs_check.specs.Sound.{IsSound}
use Rattle.hfs_check.specs.Faults.{fault_of}
use Rattle.hfs_check.specs.VolumeOf.{volume_of}
use Rattle.hfs_check.specs.Agree.{IsBeside, IsBesideAll, Agrees, AgreesBut}

-- an image is sound exactly where no check fails
abbrev pub NoImageFault : Type 0
NoImageFault = (image : List ℕ) → (fault_of image ≡ None) ↔ IsSound image

-- a sound image holds a lawful one
abbrev pub SoundImagesAreLawful : Type 0
SoundImagesAreLawful = (image : List ℕ) → IsSound image → IsLawful (volume_of image)

-- a byte of the image in no block that calls change is the base's, and so is each byte after the last whole block
abbrev pub BytesStay : Type 0
BytesStay = (base image : List ℕ) → Agrees base image → (k : ℕ) → IsBeside (block_at base) (k / 512) → slice_index image k ≡ slice_index base k

-- so is one outside the blocks that calls wrote, too, of an image that agrees except for these
abbrev pub BytesStayBut : Type 0
BytesStayBut = (written base image : List ℕ) → AgreesBut written base image → (k : ℕ) → IsBesideAll written (block_at base) (k / 512) → slice_index image k ≡ slice_index base k

-- what agrees except for some blocks with an image that agrees with a base except for others agrees with the base except for both
abbrev pub AgreementsJoin : Type 0
AgreementsJoin = (xs ys base middle image : List ℕ) → AgreesBut xs base middle → AgreesBut ys middle image → AgreesBut (xs ++ ys) base image
