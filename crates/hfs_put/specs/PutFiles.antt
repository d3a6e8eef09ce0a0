-- What a file holds in which a list was put on the volume of an image. Each law is what a function of src/laws.rt ensures.
use Rattle.std.specs.Prelude.{◌≡◌, ℕ, ◌+◌, ◌/◌, ◌≤◌, Bool, List, map, take, drop, Option, Some, None, ⊤}
use Rattle.hfs_blocks.specs.Blocks.{block_at}
use Rattle.hfs_blocks.specs.Layers.{Numbered, changes, AreWithin}
use Rattle.hfs_check.specs.Parts.{mdb_in}
use Rattle.hfs_check.specs.VolumeOf.{volume_of}
use Rattle.hfs_fields.specs.declared.mdb.Mdb.{Mdb}
use Rattle.hfs_source.specs.Ranges.{bytes_in}
use Rattle.hfs_put.specs.Laid.{laid}
use Rattle.hfs_volume.specs.InFile.{file_with, head_with, LiesIn}
use Rattle.hfs_volume.specs.declared.in_file.ImagePlace.{ImagePlace}
use Rattle.hfs_put.specs.PlacedSources.{decisions, item_put}
use Rattle.hfs_put_plan.specs.declared.items.PutItem.{PutItem}
use Rattle.hfs_put_plan.specs.Put.{Arrival}
use Rattle.hfs_put.specs.PutImages.{HasDirectory, IsPutOver}
use Rattle.hfs_put.specs.Saved.{IsPut}
use Rattle.hfs_put_sources.specs.Items.{PlannedItem}
use Rattle.hfs_put_sources.specs.Trees.{Tree}
use Rattle.hfs_put_sources.specs.declared.fork_run.ForkRun.{ForkRun}
use Rattle.hfs_copy.specs.Working.{IsWorkingCopy}
use Rattle.hfs_put.specs.Arrivals.{arrivals_of}

-- ---- what is put

-- What is put gets these places in a folder of the copy's volume, and is put there by all calls but those that write forks: these
-- blocks go out, these runs are those of the files' forks, and these are the IDs of the items.
pub record IsPutList (copy : List ℕ) (target now : ℕ) (items : List PlannedItem) (places : List PutItem) (patch : Numbered) (runs : List ForkRun) (ids : List ℕ) : Type 0 where
  pub replace : Bool
  pub placed : map item_put (decisions (volume_of copy) target replace items) ≡ map Some places
  pub current : List ℕ
  pub over : IsPutOver copy current target now places patch runs ids

-- the four bytes of a sum precede an image that begins at this byte
abbrev pub IsSumBefore : Option ℕ → ℕ → Type 0
IsSumBefore (Some sum_at) start = sum_at + 4 ≤ start
IsSumBefore None start = ⊤

-- The image lies in the file, its sum before it, and the copy has its working blocks.
pub record IsImageOf (copy : List ℕ) (place : ImagePlace) (file : List ℕ) : Type 0 where
  pub inside : LiesIn place.range file
  pub sum_before : IsSumBefore place.sum_at place.range.start
  pub copied : IsWorkingCopy copy (bytes_in place.range file)

-- ---- what the file holds then

-- The file with the forks of a tree in these runs of the image, and with these blocks over it and the new sum.
abbrev pub put_file : ImagePlace → Numbered → Tree → List PlannedItem → List ForkRun → List ℕ → List ℕ
put_file place patch host items runs file = file_with place patch (laid place.range.start host items runs file)

-- In the image's place is what the File Manager makes of the image's volume by the list, except for the bytes of forks of other
-- files, and where calls wrote these blocks of forks. Before it are the file's own bytes, with the sum of what is there now, and
-- after it the file's own.
pub record IsFilePut (target now : ℕ) (arrivals : List Arrival) (ids written : List ℕ) (place : ImagePlace) (file saved : List ℕ) : Type 0 where
  pub image : IsPut target now arrivals ids written (bytes_in place.range file) (bytes_in place.range saved)
  pub before : take place.range.start saved ≡ head_with place.sum_at (bytes_in place.range saved) (take place.range.start file)
  pub behind : drop (place.range.start + place.range.len) saved ≡ drop (place.range.start + place.range.len) file

-- ---- the laws

-- so it is of each file with such an image, and of each tree of which the list is
abbrev pub PutFilesHoldPut : Type 0
PutFilesHoldPut =
    (copy : List ℕ) (target now : ℕ) (items : List PlannedItem) (places : List PutItem) (patch : Numbered) (runs : List ForkRun) (ids : List ℕ)
    (place : ImagePlace) (file : List ℕ) (host : Tree) (list : IsPutList copy target now items places patch runs ids)
    → AreWithin (changes patch) (place.range.len / 512) → IsImageOf copy place file
    → IsFilePut target now (arrivals_of host items places) ids list.over.written place file (put_file place patch host items runs file)

-- and where the volume's master directory block is told that is saved, it stands in the image's place
abbrev pub PutFilesHaveDirectory : Type 0
PutFilesHaveDirectory =
    (copy : List ℕ) (target now : ℕ) (items : List PlannedItem) (places : List PutItem) (patch : Numbered) (runs : List ForkRun) (ids : List ℕ)
    (place : ImagePlace) (file : List ℕ) (host : Tree) (directory : Mdb) → IsPutList copy target now items places patch runs ids
    → AreWithin (changes patch) (place.range.len / 512) → IsImageOf copy place file → HasDirectory copy places patch runs directory
    → mdb_in (block_at (bytes_in place.range (put_file place patch host items runs file))) ≡ directory
