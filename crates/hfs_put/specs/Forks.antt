-- The blocks of some files' forks, and the bytes that are laid there. The law is what a function of src/laws.rt ensures.
use Rattle.std.specs.Prelude.{◌≡◌, ℕ, Bool, true, ◌&&◌, if◌then◌else◌, List, [], ◌++◌, length, map, replicate, Some, is_some}
use Rattle.std.specs.List.{flat_map}
use Rattle.hfs_fields.specs.declared.file_record.FileRecord.{FileRecord}
use Rattle.hfs_fields.specs.Records.{is_file, item_id, file_record_of}
use Rattle.hfs_fields.specs.Each.{Each}
use Rattle.hfs_blocks.specs.Blocks.{block_at}
use Rattle.hfs_btree.specs.Sound.{IsOther}
use Rattle.hfs_space.specs.declared.fork_kind.ForkKind.TheVariants.{Data, Resource}
use Rattle.hfs_space.specs.Forks.{joined}
use Rattle.hfs_catalog.specs.Records.{Record, Catalog}
use Rattle.hfs_check.specs.Agree.{AgreesBut}
use Rattle.hfs_check.specs.Parts.{Blocks, catalog_in}
use Rattle.hfs_check.specs.Sound.{IsSound}
use Rattle.hfs_check.specs.VolumeOf.{volume_of}
use Rattle.hfs_image.specs.Laws.{blocks_of_fork}
use Rattle.hfs_put_plan.specs.WithForks.{FileForks, forks_of, with_forks}

-- ---- where the forks lie

-- the blocks of both forks of a file, in all their extents
abbrev pub file_blocks : Blocks → FileRecord → List ℕ
file_blocks blocks file = blocks_of_fork blocks file.id Data file.«data» ++ blocks_of_fork blocks file.id Resource file.resource

-- those that a record has, where it is one of a file with one of these IDs
abbrev pub record_blocks : (ℕ → Bool) → Blocks → Record → List ℕ
record_blocks ids blocks r = if is_file r.1 && ids (item_id r.1) then file_blocks blocks (file_record_of r.1) else []

-- those of all files with these IDs
abbrev pub blocks_of_files : (ℕ → Bool) → Blocks → List ℕ
blocks_of_files ids blocks = flat_map (record_blocks ids blocks) (catalog_in blocks)

-- ---- the bytes that are laid there

-- whether there are bytes for the forks of the file of that ID
abbrev pub has_forks : List FileForks → ℕ → Bool
has_forks forks id = is_some (forks_of forks id)

-- the fact holds of each file for which there are bytes, and of these
abbrev pub OfTheirFiles : List FileForks → (FileRecord → FileForks → Type 0) → Catalog → Type 0
OfTheirFiles forks Fact catalog =
    Each (λ (r : Record). is_file r.1 ≡ true → (own : FileForks) → forks_of forks (item_id r.1) ≡ Some own → Fact (file_record_of r.1) own) catalog

-- as many bytes as the file's record says
abbrev pub AreLongAs : FileRecord → FileForks → Type 0
AreLongAs file own = (length own.data_fork ≡ file.«data».length) × (length own.resource_fork ≡ file.resource.length)

-- in these blocks are these bytes, in order, and zeros after them
pub record HoldBytes (blocks : Blocks) (numbers bytes : List ℕ) : Type 0 where
  pub zeros : ℕ
  pub are : joined (map blocks numbers) ≡ bytes ++ replicate zeros 0

-- the blocks that both forks of the file have by one volume's records hold these bytes in another's blocks
pub record HoldForks (records blocks : Blocks) (file : FileRecord) (own : FileForks) : Type 0 where
  pub data_fork : HoldBytes blocks (blocks_of_fork records file.id Data file.«data») own.data_fork
  pub resource_fork : HoldBytes blocks (blocks_of_fork records file.id Resource file.resource) own.resource_fork

-- in the new bytes, which are as many as the old ones, these forks are where these records say that their files lie, and nothing else has changed
pub record AreForksLaid (forks : List FileForks) (records : Blocks) (old new : List ℕ) : Type 0 where
  pub len : length new ≡ length old
  pub hold : OfTheirFiles forks (HoldForks records (block_at new)) (catalog_in records)
  pub others : (n : ℕ) → Each (IsOther n) (blocks_of_files (has_forks forks) records) → block_at new n ≡ block_at old n

-- ---- the law

-- the new image is sound, agrees with the old one except for the blocks of these files, and holds its volume with these bytes
pub record HoldsWithForks (forks : List FileForks) (old new : List ℕ) : Type 0 where
  pub agrees : AgreesBut (blocks_of_files (has_forks forks) (block_at old)) old new
  pub volume : volume_of new ≡ with_forks forks (volume_of old)

abbrev pub LaidForksAreRead : Type 0
LaidForksAreRead =
    (forks : List FileForks) (old new : List ℕ) → IsSound old → OfTheirFiles forks AreLongAs (catalog_in (block_at old)) → AreForksLaid forks (block_at old) old new
    → HoldsWithForks forks old new
