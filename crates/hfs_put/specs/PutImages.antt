-- What goes out of a list that was put on a copy of an image.
use Rattle.std.specs.Prelude.{◌≡◌, ◌≢◌, ℕ, false, List, [], map, Some, None}
use Rattle.hfs_fields.specs.Each.{Each}
use Rattle.hfs_blocks.specs.Blocks.{block_at}
use Rattle.hfs_blocks.specs.Layers.{Numbered, changes}
use Rattle.hfs_fields.specs.declared.mdb.Mdb.{Mdb}
use Rattle.hfs_check.specs.Agree.{AgreesBut}
use Rattle.hfs_check.specs.Parts.{mdb_in}
use Rattle.hfs_check.specs.VolumeOf.{volume_of}
use Rattle.hfs_volume.specs.Image.{ImageValue, patched}
use Rattle.hfs_copy.specs.Working.{IsWorkingCopy}
use Rattle.hfs_put_plan.specs.declared.items.PutItem.{PutItem}
use Rattle.hfs_put_plan.specs.Laws.{IsWhole}
use Rattle.hfs_put_plan.specs.Put.{Arrival}
use Rattle.hfs_put.specs.Laying.{AreLaid, item_of}
use Rattle.hfs_put_sources.specs.declared.fork_run.ForkRun.{ForkRun}
use Rattle.hfs_copy.specs.GivenBack.{AreKeptOf}
use Rattle.hfs_put.specs.Saved.{IsPut}
use Rattle.hfs_put.specs.Beside.{AreBeside, is_in_runs}
use Rattle.hfs_put.specs.LaidRuns.{laid}

-- The block is other in the new bytes than in the old ones.
abbrev pub IsChanged : List ℕ → List ℕ → ℕ → Type 0
IsChanged old new n = block_at new n ≢ block_at old n

-- These blocks of the new bytes are written: each that is other than in the old ones, except for those that begin in one of these runs.
pub record AreOut (old new : List ℕ) (runs : List ForkRun) (patch : Numbered) : Type 0 where
  pub are : (n : ℕ) (block : List ℕ) → changes patch n ≡ Some block → (is_in_runs runs n ≡ false) × (block ≡ block_at new n) × IsChanged old new n
  pub all : (n : ℕ) → is_in_runs runs n ≡ false → changes patch n ≡ None → block_at new n ≡ block_at old n

-- A list was put on a copy of an image, of which the calls made this, with these IDs; these blocks are written, and these runs are those of its files' forks.
-- Whatever bytes are given for the list, and whatever image has the copy's working blocks: the image with the bytes laid in these runs, and with these blocks
-- over it, holds what the File Manager makes of the image's volume by the list, except for the bytes of forks of other files.
pub record IsPutOver (copy current : List ℕ) (target now : ℕ) (items : List PutItem) (patch : Numbered) (runs : List ForkRun) (ids : List ℕ) : Type 0 where
  pub calls : AreLaid target now items (volume_of copy) (volume_of current) ids
  pub out : AreOut copy current runs patch
  -- the blocks of forks that calls wrote, in each of which the copy is other than it was
  pub written : List ℕ
  pub agrees : AgreesBut written copy current
  pub changed : Each (IsChanged copy current) written
  pub puts : (arrivals : List Arrival) (image : List ℕ) → map item_of arrivals ≡ items → Each IsWhole arrivals → IsWorkingCopy copy image
      → IsPut target now arrivals ids written image (patched patch (laid arrivals runs image))

-- what is saved so has this master directory block
abbrev pub HasDirectory : List ℕ → List PutItem → Numbered → List ForkRun → Mdb → Type 0
HasDirectory copy items patch runs directory =
    (arrivals : List Arrival) (image : List ℕ) → map item_of arrivals ≡ items → Each IsWhole arrivals → IsWorkingCopy copy image
    → mdb_in (block_at (patched patch (laid arrivals runs image))) ≡ directory

-- these are the blocks of a volume that are other than they were in its base, with which it agrees, except for those that begin in one of these runs
pub record AreGoingOut (volume : ImageValue) (runs : List ForkRun) (patch : Numbered) : Type 0 where
  pub agrees : AgreesBut volume.written volume.base volume.current
  pub changed : Numbered
  pub are : AreKeptOf volume [] [] changed
  pub makes : patched changed volume.base ≡ volume.current
  pub beside : AreBeside runs changed patch
