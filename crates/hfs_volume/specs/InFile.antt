-- Files in which an image lies whose blocks are changed.
use Rattle.std.specs.Prelude.{ℕ, ◌+◌, ◌-◌, ◌≤◌, List, ◌++◌, length, take, drop, Option, None, Some}
use Rattle.std.specs.Int.{w32, to_be_bytes}
use Rattle.std.specs.Io.KnownBytes.{Appends}
use Rattle.hfs_blocks.specs.Layers.{Numbered}
use Rattle.hfs_source.specs.declared.ranges.ByteRange.{ByteRange}
use Rattle.hfs_source.specs.declared.ranges.Container.{Container}
use Rattle.hfs_source.specs.declared.ranges.Container.TheVariants.{Bare, MacBinary, DiskCopy, Partition, RawBare, RawPartition}
use Rattle.hfs_source.specs.declared.ranges.FoundRange.{FoundRange}
use Rattle.hfs_source.specs.Ranges.{bytes_in}
use Rattle.hfs_source.specs.Sums.{sum_of}
use Rattle.hfs_fields.specs.Mdb.{bytes_at}
use Rattle.hfs_source.specs.Images.{OfEach, IsRangeOf}
use Rattle.hfs_texts.specs.Writing.{AppendsFront}
use Rattle.hfs_volume.specs.Image.{patched}
use Rattle.hfs_volume.specs.Patched.{OfPatched, OfPiece}
use Rattle.hfs_volume.specs.declared.in_file.ImagePlace.{ImagePlace}

-- where the sum of a range's bytes is: that of a disk copy is 12 bytes before its data, at byte 72 of the header's 84
abbrev pub sum_place_by : Container → ℕ → Option ℕ
sum_place_by Bare start = None
sum_place_by MacBinary start = None
sum_place_by (DiskCopy sum) start = Some (start - 12)
sum_place_by Partition start = None
sum_place_by RawBare start = None
sum_place_by RawPartition start = None

abbrev pub sum_place : FoundRange → Option ℕ
sum_place found = sum_place_by found.container found.range.start

-- ---- the file that is made

-- the image in a range of the file, with its changed blocks in place of its own
abbrev pub changed_in : ByteRange → Numbered → List ℕ → List ℕ
changed_in range changed file = patched changed (bytes_in range file)

-- the file's bytes before the image, and the same with the image's sum in place of four of them
abbrev pub head_with : Option ℕ → List ℕ → List ℕ → List ℕ
head_with None image head = head
head_with (Some place) image head = take place head ++ to_be_bytes w32 (sum_of image) ++ drop (place + 4) head

-- the file's bytes before the image, with the changed image's sum
abbrev pub changed_head : ImagePlace → Numbered → List ℕ → List ℕ
changed_head place changed file = head_with place.sum_at (changed_in place.range changed file) (take place.range.start file)

-- the file with the changed blocks and the new sum, and every other byte as it is
abbrev pub file_with : ImagePlace → Numbered → List ℕ → List ℕ
file_with place changed file =
    changed_head place changed file ++ changed_in place.range changed file ++ drop (place.range.start + place.range.len) file

-- each of these files holds this with the changed blocks and the new sum
abbrev pub OfFileWith : (List ℕ → Type 0) → ImagePlace → Numbered → (List ℕ → Type 0) → Type 0
OfFileWith Holds place changed Fact = OfEach Holds (λ file. Fact (file_with place changed file))

-- ---- its parts, of each of these files that the range lies in

-- the file reaches to the end of a range
abbrev pub LiesIn : ByteRange → List ℕ → Type 0
LiesIn range file = range.start + range.len ≤ length file

-- the bytes before the image hold this
abbrev pub OfHead : (List ℕ → Type 0) → ImagePlace → Numbered → (List ℕ → Type 0) → Type 0
OfHead Holds place changed Fact = OfEach Holds (λ file. LiesIn place.range file → Fact (changed_head place changed file))

-- the same where the sum is among them
abbrev pub OfSumHead : (List ℕ → Type 0) → ByteRange → ℕ → Numbered → (List ℕ → Type 0) → Type 0
OfSumHead Holds range sum_at changed Fact =
    OfEach Holds (λ file. LiesIn range file → Fact (head_with (Some sum_at) (changed_in range changed file) (take range.start file)))

-- the changed image holds this
abbrev pub OfPatchedRange : (List ℕ → Type 0) → ByteRange → Numbered → (List ℕ → Type 0) → Type 0
OfPatchedRange Holds range changed Fact = OfPatched (IsRangeOf Holds range.start range.len) range.len changed Fact

-- so many of its bytes from one of its blocks on hold this
abbrev pub OfRangePiece : (List ℕ → Type 0) → ByteRange → Numbered → ℕ → ℕ → (List ℕ → Type 0) → Type 0
OfRangePiece Holds range changed first count Fact = OfPiece (IsRangeOf Holds range.start range.len) changed first count Fact

-- what a writer had grew by so many of the file's bytes from a place on
abbrev pub WritesAt : (List ℕ → Type 0) → ℕ → ℕ → Option (List ℕ) → Option (List ℕ) → Type 0
WritesAt Holds place count old new = OfEach Holds (λ file. Appends old new (bytes_at place count file))

-- or by some of these, from the first on
abbrev pub WritesFrontAt : (List ℕ → Type 0) → ℕ → ℕ → Option (List ℕ) → Option (List ℕ) → Type 0
WritesFrontAt Holds place count old new = OfEach Holds (λ file. AppendsFront old new (bytes_at place count file))
