-- What is known of what was opened.
use Rattle.std.specs.Prelude.{◌≡◌, ℕ, Bool, List, IfSome, Option, None, Some}
use Rattle.hfs_commands.specs.OpenedFiles.{AreOthersOf, images_of, opened_layout}
use Rattle.hfs_commands.specs.Parts.{IsAskedPart, IsRangeAt, IsWholeAt, asked_at}
use Rattle.hfs_commands.specs.SeenFiles.{AreBlocksOf, PartBlocks, parts_of}
use Rattle.hfs_commands.specs.declared.opened_file.OpenedFile.{OpenedFile}
use Rattle.hfs_source.specs.Asking.{IsAnswerTo}
use Rattle.hfs_source.specs.Ranges.{bytes_in, volume_name_in}
use Rattle.hfs_source.specs.Sums.{sum_told}
use Rattle.hfs_source.specs.declared.asking.Counted.{Counted}
use Rattle.hfs_source.specs.declared.asking.NumberedRange.{NumberedRange}
use Rattle.hfs_source.specs.declared.ranges.ByteRange.{ByteRange}
use Rattle.hfs_image.specs.Seen.{HasNoFault}
use Rattle.hfs_source.specs.Images.{HasLength, OfEach}
use Rattle.hfs_source.specs.declared.blocks.BlocksOf.{BlocksOf}
use Rattle.hfs_source.specs.declared.range.RangeBytes.{RangeBytes}
use Rattle.hfs_source.specs.declared.window.Window.{Window}
use Rattle.hfs_word_take.specs.Facts.{volume_text}

-- the line tells a range with its number, the name of its volume in each file that has the bytes which were read, whether its sum is right, and how
-- many raw sectors of the file have no user data
pub record IsToldLine {F : Type 0} (file : OpenedFile F) (place : NumberedRange) (line : List ℕ) (sum : Option Bool) : Type 0 where
  pub name : Option (List ℕ)
  pub name_is : OfEach (images_of file) (λ bytes. name ≡ volume_name_in place.found.range bytes)
  pub others : ℕ
  pub others_is : AreOthersOf file others
  pub line_is : line ≡ volume_text place.number place.found name sum others

-- there is a line of a range inside, and none of a file as it is
abbrev pub IsToldPart : {F : Type 0} → OpenedFile F → Option NumberedRange → Option (List ℕ) → Option Bool → Type 0
IsToldPart file None line sum = (line ≡ None) × (sum ≡ None)
IsToldPart file (Some place) line sum = (text : List ℕ) × (line ≡ Some text) × IsToldLine file place text sum

-- the line tells this range of a file with its number, and there is none of a file as it is
abbrev pub IsLineAt : ByteRange → Option NumberedRange → Option (List ℕ) → Type 0
IsLineAt range None line = line ≡ None
IsLineAt range (Some place) line =
    (name : Option (List ℕ)) × (sum : Option Bool) × (others : ℕ) × (range ≡ place.found.range) × (line ≡ Some (volume_text place.number place.found name sum others))

-- the line tells this range, which is what is asked for
abbrev pub IsLineOf : Option ℕ → ByteRange → Option (List ℕ) → Type 0
IsLineOf volume range line = (place : Option NumberedRange) × IsAnswerTo volume (asked_at place) × IsLineAt range place line

-- the line tells the volume that is asked for, which has so many bytes
abbrev pub TellsVolume : Option ℕ → ℕ → Option (List ℕ) → Type 0
TellsVolume volume len line = (range : ByteRange) × (range.len ≡ len) × IsLineOf volume range line

-- ---- what is told of its sum

-- of a range's sum this is told, of each file that has the bytes which were read; nothing of a file as it is
abbrev pub IsSumAt : (List ℕ → Type 0) → Option NumberedRange → Option Bool → Type 0
IsSumAt Holds None sum = sum ≡ None
IsSumAt Holds (Some place) sum = OfEach Holds (λ file. sum ≡ sum_told place.found.container (bytes_in place.found.range file))

-- the range is what is asked for in each file that has the bytes which were read, or the file as it is; of a range inside the line tells, of each such
-- file, its number, the name of its volume, this of its sum, and how many raw sectors have no user data
pub record TellsPart {F : Type 0} (part : Window (OpenedFile F)) (counted : Counted) (volume : Option ℕ) (line : Option (List ℕ)) (sum : Option Bool) : Type 0 where
  pub place : Option NumberedRange
  pub answers : IsAnswerTo volume (asked_at place)
  pub asked : IsAskedPart counted volume (record { bytes = part; place = place })
  pub range_is : IsRangeAt place part.range
  pub all_is : IsWholeAt (images_of part.source) place part.range
  pub line_is : IsToldPart part.source place line sum
  pub sum_is : IsSumAt (images_of part.source) place sum

-- it is that range of one of these files
abbrev pub IsRangeIn : (List ℕ → Type 0) → ByteRange → List ℕ → Type 0
IsRangeIn Holds range part = (file : List ℕ) × Holds file × (part ≡ bytes_in range file)

-- of the sum of bytes that are a range this is told
abbrev pub IsSumIn : (List ℕ → Type 0) → Option NumberedRange → Option Bool → Type 0
IsSumIn Parts None sum = sum ≡ None
IsSumIn Parts (Some place) sum = OfEach Parts (λ part. sum ≡ sum_told place.found.container part)

-- the line tells so the range, which has so many bytes, of a file as it was before these blocks of it were read: they are those of that range, each
-- part of it that they may be is that range of such a file, and this is told of its sum
pub record TellsPartIn {F : Type 0} (blocks : BlocksOf (RangeBytes (OpenedFile F))) (counted : Counted) (volume : Option ℕ) (len : ℕ) (line : Option (List ℕ)) (sum : Option Bool) : Type 0 where
  pub part : Window (OpenedFile F)
  pub len_is : part.range.len ≡ len
  pub told : TellsPart part counted volume line sum
  pub blocks_are : AreBlocksOf part blocks
  pub parts_are : OfEach (parts_of blocks) (IsRangeIn (images_of part.source) part.range)
  pub sum_is : IsSumIn (parts_of blocks) told.place sum

-- a range of the file that these blocks are read from
abbrev pub window_at : {F : Type 0} → ByteRange → PartBlocks F → Window (OpenedFile F)
window_at range blocks = record { source = blocks.blocks.bytes.bytes; range = range }

-- these blocks of a file are that range of it, or there are none, where no file that has the bytes which were read has all of the range
abbrev pub AreBlocksAt : {F : Type 0} → ByteRange → PartBlocks F → Type 0
AreBlocksAt range blocks = AreBlocksOf (window_at range blocks) blocks.blocks

-- these blocks of a file are the same range of it as this part is of its own, or there are none where it doesn't lie in the file; and the user data is
-- read of both, or of neither
abbrev pub AreBlocksBeside : {F : Type 0} → Window (OpenedFile F) → PartBlocks F → Type 0
AreBlocksBeside part again = AreBlocksAt part.range again × (opened_layout again.blocks.bytes.bytes ≡ opened_layout part.source)

-- the line tells so the range of which these are the blocks, and what was opened a second time are the blocks of the same range
pub record HasOpenedPart {F : Type 0} (blocks : BlocksOf (RangeBytes (OpenedFile F))) (beside : Option (PartBlocks F)) (counted : Counted) (volume : Option ℕ) (len : ℕ) (line : Option (List ℕ)) (sum : Option Bool) : Type 0 where
  pub told : TellsPartIn blocks counted volume len line sum
  pub again : IfSome beside (AreBlocksBeside told.part)

-- the image has so many bytes if it has no fault
abbrev pub HasLengthIfSound : ℕ → List ℕ → Type 0
HasLengthIfSound len image = HasNoFault image → HasLength len image
