-- What the needed blocks of a volume decide. Each statement is what a function of src/laws.rt ensures.
use Rattle.std.specs.Prelude.{◌≡◌, ◌<◌, ℕ, List, length}
use Rattle.hfs_fields.specs.declared.file_record.ForkRecord.{ForkRecord}
use Rattle.hfs_blocks.specs.Blocks.{block_at, block_count}
use Rattle.hfs_model.specs.Volume.{Items, Volume}
use Rattle.hfs_space.specs.Bitmap.{is_used}
use Rattle.hfs_space.specs.Extents.{fork_extents, fork_byte}
use Rattle.hfs_space.specs.ForkLaws.{block_numbers}
use Rattle.hfs_space.specs.declared.fork_kind.ForkKind.{ForkKind}
use Rattle.hfs_catalog.specs.Items.{Contents, items_in}
use Rattle.hfs_check.specs.Faults.{blocks_fault, fault_of}
use Rattle.hfs_check.specs.Parts.{Blocks, mdb_in, overflow_in, catalog_in}
use Rattle.hfs_check.specs.Report.{sound_report, report_of}
use Rattle.hfs_check.specs.Sound.{AreBlocksSound, IsSound}
use Rattle.hfs_check.specs.VolumeOf.{bytes_in, contents_in, volume_in, volume_of}
use Rattle.hfs_image.specs.Needed.{AgreeOn, AgreeOnNeeded, needed_blocks}

-- ---- the volume but for the bytes of forks

abbrev pub with_items : Items → Volume → Volume
with_items items volume = record volume { items = items }

-- the volume of these blocks, with these bytes in its files' forks
abbrev pub volume_with : Contents → Blocks → Volume
volume_with contents blocks = with_items (items_in contents (catalog_in blocks)) (volume_in blocks)

-- the logical blocks of a fork of a file, in all its extents
unfoldable pub blocks_of_fork : Blocks → ℕ → ForkKind → ForkRecord → List ℕ
blocks_of_fork blocks file kind fork =
    block_numbers (mdb_in blocks) (fork_extents (overflow_in blocks) file (fork_byte kind) fork.extents)

-- two sound volumes of so many blocks report the same, hold the same but for the bytes of forks, and mark the same
-- allocation blocks; a fork whose blocks agree has the same bytes
pub record HoldSame (total : ℕ) (old new : Blocks) : Type 0 where
  pub report : sound_report total new ≡ sound_report total old
  pub directory : mdb_in new ≡ mdb_in old
  pub overflow : overflow_in new ≡ overflow_in old
  pub catalog : catalog_in new ≡ catalog_in old
  pub marks : (block : ℕ) → block < (mdb_in old).allocation_blocks
      → is_used new (mdb_in old).bitmap_start block ≡ is_used old (mdb_in old).bitmap_start block
  pub volume : volume_in new ≡ volume_with (contents_in new) old
  pub forks : (file : ℕ) (kind : ForkKind) (fork : ForkRecord) → blocks_of_fork new file kind fork ≡ blocks_of_fork old file kind fork
  pub bytes : (file : ℕ) (kind : ForkKind) (fork : ForkRecord) → AgreeOn (blocks_of_fork old file kind fork) old new
      → bytes_in new file kind fork ≡ bytes_in old file kind fork

-- ---- the laws

-- volumes of as many blocks that agree on the blocks that the first needs need the same blocks and have the same first fault,
-- and where there is none they hold the same
pub record AnswerSame (total : ℕ) (old new : Blocks) : Type 0 where
  pub needed : needed_blocks total new ≡ needed_blocks total old
  pub fault : blocks_fault total new ≡ blocks_fault total old
  pub held : AreBlocksSound total old → HoldSame total old new

abbrev pub NeededIsEnough : Type 0
NeededIsEnough = (total : ℕ) (old new : Blocks) → AgreeOnNeeded total old new → AnswerSame total old new

-- images that agree so have the same first fault, the same report, and the same volume but for the bytes of forks
pub record ImagesAnswerSame (old new : List ℕ) : Type 0 where
  pub fault : fault_of new ≡ fault_of old
  pub report : report_of new ≡ report_of old
  pub volume : IsSound old → volume_of new ≡ volume_with (contents_in (block_at new)) (block_at old)

abbrev pub NeededOfImages : Type 0
NeededOfImages =
    (old new : List ℕ) → length new ≡ length old → AgreeOnNeeded (block_count old) (block_at old) (block_at new) → ImagesAnswerSame old new
