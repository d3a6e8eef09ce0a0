-- Which of a file's ranges is taken, by its number or without one.
use Rattle.std.specs.Prelude.{◌≡◌, ⊤, ℕ, ◌+◌, Bool, true, false, ◌==◌, if◌then◌else◌, List, [], ◌∷◌, ◌++◌, length, Option, None, Some}
use Rattle.std.specs.Option.{is_some, option_to_list}
use Rattle.hfs_source.specs.declared.asking.Asked.{Asked}
use Rattle.hfs_source.specs.declared.asking.Asked.TheVariants.{WholeFile, Inside, Several, Missing}
use Rattle.hfs_source.specs.declared.asking.Counted.{Counted}
use Rattle.hfs_source.specs.declared.asking.Counted.TheVariants.{Volumes, Ranges}
use Rattle.hfs_source.specs.declared.asking.NumberedRange.{NumberedRange}
use Rattle.hfs_source.specs.declared.ranges.Container.{Container}
use Rattle.hfs_source.specs.declared.ranges.Container.TheVariants.{Bare, MacBinary, DiskCopy, Partition, RawBare, RawPartition}
use Rattle.hfs_source.specs.declared.ranges.FoundRange.{FoundRange}
use Rattle.hfs_source.specs.Ranges.{volume_name_in}
use Rattle.hfs_source.specs.declared.ranges.Layout.{Layout}
use Rattle.hfs_source.specs.Found.{found_by, nth_found_by}

-- a range with this number
abbrev pub numbered : ℕ → FoundRange → NumberedRange
numbered number found = record { number = number; found = found }

-- whether a range counts where no number is given: one that holds a volume, or any
abbrev pub is_counted : Counted → FoundRange → List ℕ → Bool
is_counted Volumes found file = is_some (volume_name_in found.range file)
is_counted Ranges found file = true

-- the range with its number, where it counts
unfoldable pub counted_at : Counted → ℕ → FoundRange → List ℕ → Option NumberedRange
counted_at counted number found file = if is_counted counted found file then Some (numbered number found) else None

-- those of these ranges that count, with numbers from this one on
unfoldable pub counted_from : Counted → ℕ → List FoundRange → List ℕ → List NumberedRange
counted_from counted number [] file = []
counted_from counted number (found ∷ ranges) file = option_to_list (counted_at counted number found file) ++ counted_from counted (number + 1) ranges file

-- whether the whole file is a volume, which is the first range then
abbrev pub is_whole_file : Container → Bool
is_whole_file Bare = true
is_whole_file MacBinary = false
is_whole_file (DiskCopy sum) = false
is_whole_file Partition = false
is_whole_file RawBare = false
is_whole_file RawPartition = false

abbrev pub is_bare : List FoundRange → Bool
is_bare [] = false
is_bare (found ∷ ranges) = is_whole_file found.container

-- of those that count the only one is taken; where none counts the file as it is; of several none
abbrev pub only_one : List NumberedRange → Asked
only_one [] = WholeFile
only_one (one ∷ []) = Inside one
only_one (one ∷ other ∷ more) = Several (length (one ∷ other ∷ more))

-- without a number: a bare volume as it is, else the only range inside that counts
unfoldable pub chosen_of : Counted → List FoundRange → List ℕ → Asked
chosen_of counted ranges file = if is_bare ranges then WholeFile else only_one (counted_from counted 1 ranges file)

-- by a number that isn't 0
abbrev pub named_of : ℕ → Option FoundRange → Asked
named_of number None = Missing number
named_of number (Some found) = Inside (numbered number found)

-- what is asked for of a file, or of the user data of one: 0 is the file as it is
unfoldable pub asked_in : Layout → Counted → Option ℕ → List ℕ → Asked
asked_in layout counted None file = chosen_of counted (found_by layout file) file
asked_in layout counted (Some number) file = if number == 0 then WholeFile else named_of number (nth_found_by layout number file)

-- this answers what was asked for by this number or without one, whatever the file is: 0 is the file as it is, another number its range or that there is
-- none; only without one several count
abbrev pub IsAnswerTo : Option ℕ → Asked → Type 0
IsAnswerTo None WholeFile = ⊤
IsAnswerTo (Some number) WholeFile = number ≡ 0
IsAnswerTo None (Inside place) = ⊤
IsAnswerTo (Some number) (Inside place) = place.number ≡ number
IsAnswerTo number (Several count) = number ≡ None
IsAnswerTo number (Missing other) = number ≡ Some other
