-- The forks of files, of each image that has the bytes which were read.
use Rattle.std.specs.Prelude.{◌≡◌, ℕ, List, Result, Ok, Err, Option, Some, MatchResult, ⊤}
use Rattle.std.specs.Io.KnownBytes.{Appends}
use Rattle.hfs_blocks.specs.Blocks.{block_count}
use Rattle.hfs_model.specs.declared.call.Fork.{Fork}
use Rattle.hfs_model.specs.declared.call.Fork.TheVariants.{DataFork, ResFork}
use Rattle.hfs_model.specs.declared.reply.Reply.{Reply}
use Rattle.hfs_model.specs.Children.{entries_of}
use Rattle.hfs_model.specs.Reading.{get_cat_info}
use Rattle.hfs_check.specs.VolumeOf.{volume_of}
use Rattle.hfs_source.specs.Images.{OfEach}
use Rattle.hfs_source.specs.Seen.{IsSeen}
use Rattle.hfs_image.specs.declared.opening.NeededVolume.{NeededVolume}
use Rattle.hfs_image.specs.declared.whole_files.NeededFile.{NeededFile}
use Rattle.hfs_image.specs.declared.fork_runs.ForkRuns.{ForkRuns}
use Rattle.hfs_image.specs.ForkRuns.{IsForkBytes}
use Rattle.hfs_image.specs.Forks.{named_fork}

-- what was read of the volume is of each of these images, and they have as many blocks as it
pub record IsReadOfEach (Holds : List ℕ → Type 0) (volume : NeededVolume) : Type 0 where
  pub seen : IsSeen Holds volume.read
  pub blocks : OfEach Holds (λ image. block_count image ≡ volume.count)

-- ---- of one image

-- its volume has a fork of these bytes under that name
abbrev pub HasFork : ℕ → List ℕ → Fork → List ℕ → List ℕ → Type 0
HasFork dir name fork bytes image = named_fork (entries_of (volume_of image)) dir name fork ≡ Ok bytes

-- this reply refuses the fork of that name
abbrev pub RefusesFork : ℕ → List ℕ → Fork → Reply → List ℕ → Type 0
RefusesFork dir name fork reply image = named_fork (entries_of (volume_of image)) dir name fork ≡ Err reply

-- its volume has a fork under that name, and this holds of its bytes
pub record HasForkOf (dir : ℕ) (name : List ℕ) (fork : Fork) (Fact : List ℕ → Type 0) (image : List ℕ) : Type 0 where
  pub bytes : List ℕ
  pub has : HasFork dir name fork bytes image
  pub so : Fact bytes

-- its volume has a fork under that name, whose bytes lie there
abbrev pub LiesInRuns : ℕ → List ℕ → Fork → ForkRuns → List ℕ → Type 0
LiesInRuns dir name fork found image = HasForkOf dir name fork (IsForkBytes (Some image) found) image

-- this is told of the item of that name, and it has these forks
pub record HasFile (dir : ℕ) (name : List ℕ) (file : NeededFile) (image : List ℕ) : Type 0 where
  pub told : file.told ≡ get_cat_info (entries_of (volume_of image)) dir name
  pub data_fork : HasFork dir name DataFork file.«data».items image
  pub resource_fork : HasFork dir name ResFork file.resource.items image

-- this reply refuses either fork of that name
pub record RefusesFile (dir : ℕ) (name : List ℕ) (reply : Reply) (image : List ℕ) : Type 0 where
  pub data_fork : RefusesFork dir name DataFork reply image
  pub resource_fork : RefusesFork dir name ResFork reply image

-- ---- what is answered of it

-- a file with both forks, or the reply that refuses either
abbrev pub IsFileFound : ℕ → List ℕ → Result NeededFile Reply → List ℕ → Type 0
IsFileFound dir name found image = MatchResult found (λ file. HasFile dir name file image) (λ reply. RefusesFile dir name reply image)

-- the fork was written, or the reply refuses it
abbrev pub IsForkWritten : ℕ → List ℕ → Fork → Option (List ℕ) → Option (List ℕ) → Result ⊤ Reply → List ℕ → Type 0
IsForkWritten dir name fork old new found image =
    MatchResult found (λ done. HasForkOf dir name fork (Appends old new) image) (λ reply. RefusesFork dir name fork reply image)
