-- All that is found in a file.
use Rattle.std.specs.Prelude.{ℕ, ◌-◌, Bool, ◌&&◌, ◌==◌, if◌then◌else◌, List, [], ◌∷◌, ◌++◌, length, map, Option, None, slice_get}
use Rattle.std.specs.List.{fold, list_any}
use Rattle.std.specs.Option.{option_to_list}
use Rattle.hfs_source.specs.declared.ranges.ByteRange.{ByteRange}
use Rattle.hfs_source.specs.declared.ranges.Container.{Container}
use Rattle.hfs_source.specs.declared.ranges.Container.TheVariants.{Bare, MacBinary, DiskCopy, Partition, RawBare, RawPartition}
use Rattle.hfs_source.specs.declared.ranges.Layout.{Layout}
use Rattle.hfs_source.specs.declared.ranges.Layout.TheVariants.{Plain, Raw}
use Rattle.hfs_source.specs.declared.ranges.FoundRange.{FoundRange}
use Rattle.hfs_source.specs.Ranges.{found_as, range_of, volume_as}
use Rattle.hfs_source.specs.MacBinary.{macbinary_in}
use Rattle.hfs_source.specs.DiskCopy.{disk_copy_in}
use Rattle.hfs_source.specs.PartitionMap.{partitions_in}

-- the ranges as they are looked for, in a file of so many bytes: the file itself, MacBinary, Disk Copy, a partition map
unfoldable pub looked_for : ℕ → List ℕ → List FoundRange
looked_for len file =
    option_to_list (volume_as Bare (range_of 0 len) file) ++ option_to_list (macbinary_in len file) ++ option_to_list (disk_copy_in (range_of 0 len) file)
    ++ partitions_in len file

unfoldable pub is_same_range : ByteRange → ByteRange → Bool
is_same_range a b = (a.start == b.start) && (a.len == b.len)

-- behind those that were found before, where its range is none of theirs
unfoldable pub with_new : List FoundRange → FoundRange → List FoundRange
with_new found next = if list_any (λ (other : FoundRange). is_same_range other.range next.range) found then found else found ++ next ∷ []

-- each range once, where it stands first
unfoldable pub each_once : List FoundRange → List FoundRange
each_once ranges = fold with_new [] ranges

-- what is found in a file
unfoldable pub found_in : List ℕ → List FoundRange
found_in file = each_once (looked_for (length file) file)

-- ---- user data

-- how a range that is found in user data lies in its file
abbrev pub raw_container : Container → Container
raw_container Bare = RawBare
raw_container MacBinary = MacBinary
raw_container (DiskCopy sum) = DiskCopy sum
raw_container Partition = RawPartition
raw_container RawBare = RawBare
raw_container RawPartition = RawPartition

abbrev pub as_raw : FoundRange → FoundRange
as_raw found = found_as (raw_container found.container) found.range

-- the ranges as they are looked for in so many bytes of user data: all of it, a partition map
unfoldable pub looked_for_raw : ℕ → List ℕ → List FoundRange
looked_for_raw len file = option_to_list (volume_as Bare (range_of 0 len) file) ++ partitions_in len file

-- what is found in user data
unfoldable pub found_raw_in : List ℕ → List FoundRange
found_raw_in file = map as_raw (each_once (looked_for_raw (length file) file))

-- ---- either

-- what is found in a file, or in the user data of one
abbrev pub found_by : Layout → List ℕ → List FoundRange
found_by Plain file = found_in file
found_by Raw file = found_raw_in file

-- the n-th of them, counted from 1
unfoldable pub nth_found_by : Layout → ℕ → List ℕ → Option FoundRange
nth_found_by layout n file = if n == 0 then None else slice_get (found_by layout file) (n - 1)
