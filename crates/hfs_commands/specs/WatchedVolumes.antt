-- Volumes in files that were opened to be changed.
use Rattle.std.specs.Prelude.{◌≡◌, ◌⊎◌, ℕ, Bool, true, false, List, Option, None, Some}
use Rattle.std.specs.Borrow.{Bor}
use Rattle.hfs_source.specs.declared.asking.NumberedRange.{NumberedRange}
use Rattle.hfs_source.specs.declared.ranges.ByteRange.{ByteRange}
use Rattle.hfs_source.specs.declared.ranges.FoundRange.{FoundRange}
use Rattle.hfs_source.specs.Ranges.{bytes_in, range_of}
use Rattle.hfs_source.specs.Sums.{sum_told}
use Rattle.hfs_volume.specs.InFile.{sum_place}
use Rattle.hfs_source.specs.Images.{OfEach}
use Rattle.hfs_source.specs.declared.range.RangeBytes.{RangeBytes}
use Rattle.hfs_source.specs.Asking.{asked_in}
use Rattle.hfs_source.specs.declared.asking.Asked.TheVariants.{Inside}
use Rattle.hfs_source.specs.declared.asking.Counted.TheVariants.{Ranges}
use Rattle.hfs_commands.specs.OpenedFiles.{IsLaidOut, images_of, opened_layout}
use Rattle.hfs_commands.specs.Unopened.{HasNoPart, HasRawSectors}
use Rattle.hfs_commands.specs.declared.opened_file.OpenedFile.{OpenedFile}
use Rattle.hfs_commands.specs.declared.fault.Fault.{Fault}
use Rattle.hfs_commands.specs.declared.fault.Fault.TheVariants.{CannotRead, NoMemory, SumWrong}

abbrev pub is_wrong : Option Bool → Bool
is_wrong None = false
is_wrong (Some true) = false
is_wrong (Some false) = true

-- whether the sum that a disk copy's header tells isn't that of its data
abbrev pub has_wrong_sum : FoundRange → List ℕ → Bool
has_wrong_sum found file = is_wrong (sum_told found.container (bytes_in found.range file))

-- the same of a place in a file, if it is no whole file
abbrev pub has_wrong_sum_at : Option NumberedRange → List ℕ → Bool
has_wrong_sum_at None file = false
has_wrong_sum_at (Some place) file = has_wrong_sum place.found file

-- a range isn't changed: its sum is wrong, of each file that has the bytes which were read; or they can't be read
abbrev pub IsWrongSum : (List ℕ → Type 0) → FoundRange → Bor (List ℕ) → Fault → Type 0
IsWrongSum Holds found path why = ((why ≡ SumWrong) × OfEach Holds (λ file. true ≡ has_wrong_sum found file)) ⊎ ((why ≡ CannotRead path) ⊎ (why ≡ NoMemory))

-- where these bytes lie in their file
abbrev pub lies_in : {S : Type 0} → RangeBytes S → ByteRange
lies_in bytes = range_of bytes.start bytes.len

-- the bytes of a place in a file, or all of it
abbrev pub range_at : Option NumberedRange → ByteRange → ByteRange
range_at None all = all
range_at (Some place) all = place.found.range

-- where the sum of the bytes there stands
abbrev pub sum_at_of : Option NumberedRange → Option ℕ
sum_at_of None = None
sum_at_of (Some place) = sum_place place.found

-- the sum of the volume with this number is wrong, of each of these files, and so it is told
abbrev pub HasWrongSum : {F : Type 0} → ℕ → OpenedFile F → Fault → Type 0
HasWrongSum number file why = (why ≡ SumWrong) × IsLaidOut file × ((place : NumberedRange) × OfEach (images_of file) (λ bytes.
    (asked_in (opened_layout file) Ranges (Some number) bytes ≡ Inside place) × (has_wrong_sum place.found bytes ≡ true)))

-- a volume with this number isn't opened to be changed: there is none, it lies in raw sectors, or its sum is wrong
abbrev pub HasNoVolume : {F : Type 0} → ℕ → OpenedFile F → Fault → Type 0
HasNoVolume number file why = HasNoPart Ranges (Some number) file why ⊎ (HasRawSectors file why ⊎ HasWrongSum number file why)
