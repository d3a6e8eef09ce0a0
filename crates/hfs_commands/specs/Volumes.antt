-- What is printed of the volumes in a file.
use Rattle.std.specs.Prelude.{ℕ, ◌+◌, Bool, true, false, ◌==◌, if◌then◌else◌, List, [], ◌∷◌, ◌++◌, take, codes, Option, None, Some}
use Rattle.std.specs.Fmt.{decimal}
use Rattle.hfs_texts.specs.PlainTexts.{plain_text}
use Rattle.hfs_source.specs.declared.ranges.Container.{Container}
use Rattle.hfs_source.specs.declared.ranges.Container.TheVariants.{Bare, MacBinary, DiskCopy, Partition, RawBare, RawPartition}
use Rattle.hfs_source.specs.declared.ranges.FoundRange.{FoundRange}
use Rattle.hfs_source.specs.Ranges.{bytes_in, volume_name_in}
use Rattle.hfs_source.specs.declared.ranges.Layout.{Layout}
use Rattle.hfs_source.specs.Found.{found_by}
use Rattle.hfs_source.specs.Sums.{sum_told}

-- how a range lies in the file
abbrev pub container_text : Container → List ℕ
container_text Bare = codes "bare"
container_text MacBinary = codes "macbinary"
container_text (DiskCopy sum) = codes "disk copy"
container_text Partition = codes "partition"
container_text RawBare = codes "raw 2352 bare"
container_text RawPartition = codes "raw 2352 partition"

-- the plain text of a name in its field of a length byte and characters
unfoldable pub name_text : List ℕ → List ℕ
name_text [] = []
name_text (len ∷ characters) = plain_text (take len characters)

-- the name of the volume, if there is one
abbrev pub name_field : Option (List ℕ) → List ℕ
name_field None = []
name_field (Some name) = name_text name

abbrev pub sum_field : Option Bool → List ℕ
sum_field None = []
sum_field (Some true) = codes "\tsum right"
sum_field (Some false) = codes "\tsum wrong"

-- what is told where there is no volume
abbrev pub missing_field : Option (List ℕ) → List ℕ
missing_field None = codes "\tno volume"
missing_field (Some name) = []

-- how many raw sectors have no user data, where there are some
unfoldable pub others_field : ℕ → List ℕ
others_field others = if others == 0 then [] else codes "\tother mode " ++ decimal others

-- number, how it lies, first byte, bytes
unfoldable pub place_fields : ℕ → FoundRange → List ℕ
place_fields number found =
    decimal number ++ codes "\t" ++ container_text found.container ++ codes "\t" ++ decimal found.range.start ++ codes "\t" ++ decimal found.range.len

-- the line of a range, of the name of its volume, of what is told of its sum, and of how many raw sectors have no user data
unfoldable pub volume_line : ℕ → FoundRange → Option (List ℕ) → Option Bool → ℕ → List ℕ
volume_line number found name sum others =
    place_fields number found ++ codes "\t" ++ name_field name ++ sum_field sum ++ missing_field name ++ others_field others ++ codes "\n"

-- the line of a range of a file
unfoldable pub line_of : ℕ → ℕ → FoundRange → List ℕ → List ℕ
line_of others number found file =
    volume_line number found (volume_name_in found.range file) (sum_told found.container (bytes_in found.range file)) others

-- the lines of these ranges, with numbers from this one on
unfoldable pub lines_from : ℕ → ℕ → List FoundRange → List ℕ → List ℕ
lines_from others number [] file = []
lines_from others number (found ∷ ranges) file = line_of others number found file ++ lines_from others (number + 1) ranges file

-- the lines of what was found, if anything was
abbrev pub lines_of : ℕ → List FoundRange → List ℕ → Option (List ℕ)
lines_of others [] file = None
lines_of others (found ∷ ranges) file = Some (lines_from others 1 (found ∷ ranges) file)

-- the lines of the volumes in a file, or in the user data of one of which so many sectors have none
unfoldable pub volume_lines : Layout → ℕ → List ℕ → Option (List ℕ)
volume_lines layout others file = lines_of others (found_by layout file) file
