-- Parts of files, known by what was read of them.
use Rattle.std.specs.Prelude.{◌≡◌, ◌⊎◌, ℕ, ◌+◌, List, Option}
use Rattle.std.specs.Borrow.{Bor}
use Rattle.hfs_check.specs.declared.mount_fault.MountFault.{MountFault}
use Rattle.hfs_source.specs.declared.ranges.ByteRange.{ByteRange}
use Rattle.hfs_source.specs.Images.{EndsBefore, IsRangeOf, OfEach, ReachesTo}
use Rattle.hfs_source.specs.declared.asking.Counted.{Counted}
use Rattle.hfs_source.specs.declared.blocks.BlocksOf.{BlocksOf}
use Rattle.hfs_source.specs.declared.range.RangeBytes.{RangeBytes}
use Rattle.hfs_source.specs.declared.seen_blocks.SeenBlocks.{SeenBlocks}
use Rattle.hfs_source.specs.declared.window.Window.{Window}
use Rattle.hfs_commands.specs.Faults.{IsUnopened}
use Rattle.hfs_commands.specs.OpenedFiles.{images_of}
use Rattle.hfs_commands.specs.Parts.{IsAskedWindow}
use Rattle.hfs_commands.specs.declared.fault.Fault.{Fault}
use Rattle.hfs_commands.specs.declared.fault.Fault.TheVariants.{Refused}
use Rattle.hfs_commands.specs.declared.opened_file.OpenedFile.{OpenedFile}

-- so many bytes from this one on are the range, or none are, where none of these images has all of the range
abbrev pub IsPartOf : (List ℕ → Type 0) → ByteRange → ℕ → ℕ → Type 0
IsPartOf Holds range start len =
    ((start ≡ range.start) × (len ≡ range.len)) ⊎ ((start ≡ 0) × (len ≡ 0) × OfEach Holds (EndsBefore (range.start + range.len)))

-- the blocks of a part of a file
abbrev pub PartBlocks : Type 0 → Type 0
PartBlocks F = SeenBlocks (BlocksOf (RangeBytes (OpenedFile F)))

-- that part of each file that has the bytes which were read
abbrev pub parts_of : {F : Type 0} → BlocksOf (RangeBytes (OpenedFile F)) → List ℕ → Type 0
parts_of blocks = IsRangeOf (images_of blocks.bytes.bytes) blocks.bytes.start blocks.bytes.len

-- these blocks are those of this part of a file, which reaches to their end; more of the file may have been read since
pub record AreBlocksOf {F : Type 0} (part : Window (OpenedFile F)) (blocks : BlocksOf (RangeBytes (OpenedFile F))) : Type 0 where
  pub narrows : OfEach (images_of blocks.bytes.bytes) (images_of part.source)
  pub range : IsPartOf (images_of part.source) part.range blocks.bytes.start blocks.bytes.len
  pub inside : OfEach (images_of part.source) (ReachesTo (blocks.bytes.start + blocks.bytes.len))

-- these blocks are what is asked for of a file that was opened
pub record AreSeenOf {F : Type 0} (counted : Counted) (volume : Option ℕ) (seen : BlocksOf (RangeBytes (OpenedFile F))) : Type 0 where
  pub part : Window (OpenedFile F)
  pub asked : IsAskedWindow counted volume part
  pub blocks : AreBlocksOf part seen

-- what is asked for of a file was not opened, or it is refused
abbrev pub IsUnseen : Bor (List ℕ) → Option ℕ → Fault → Type 0
IsUnseen path volume why = IsUnopened path volume why ⊎ ((refusal : MountFault) × (why ≡ Refused refusal))
