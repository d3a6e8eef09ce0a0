-- Disk Copy 4.2: a header of 84 bytes, and the data behind it.
use Rattle.std.specs.Prelude.{ℕ, ◌+◌, ◌%◌, Bool, ◌&&◌, ◌==◌, nat_le, if◌then◌else◌, List, Option, Some, None, slice_index}
use Rattle.hfs_fields.specs.Numbers.{number_at}
use Rattle.hfs_fields.specs.Mdb.{bytes_at}
use Rattle.hfs_source.specs.declared.ranges.ByteRange.{ByteRange}
use Rattle.hfs_source.specs.declared.ranges.Container.TheVariants.{DiskCopy}
use Rattle.hfs_source.specs.declared.ranges.FoundRange.{FoundRange}
use Rattle.hfs_source.specs.Ranges.{range_of, found_as}

-- how many bytes the data has, and their sum as the header tells it
abbrev pub data_length : List ℕ → ℕ
data_length head = number_at 64 4 head

abbrev pub told_sum : List ℕ → ℕ
told_sum head = number_at 72 4 head

-- a name of 1 to 63 characters, and the number of the format, $0100
unfoldable pub is_disk_copy_head : List ℕ → Bool
is_disk_copy_head head = nat_le 1 (slice_index head 0) && nat_le (slice_index head 0) 63 && (number_at 82 2 head == 256)

-- the data is even, has at least 1,536 bytes, and ends within so many bytes that it is looked for in
unfoldable pub is_data_length : ℕ → ℕ → Bool
is_data_length room len = (len % 2 == 0) && nat_le 1536 len && nat_le (84 + len) room

-- the data of a disk copy with this header, which begins a range
unfoldable pub disk_copy_of : ByteRange → List ℕ → Option FoundRange
disk_copy_of range head =
    if is_disk_copy_head head && is_data_length range.len (data_length head)
    then Some (found_as (DiskCopy (told_sum head)) (range_of (range.start + 84) (data_length head)))
    else None

-- the data of the disk copy that a range is
unfoldable pub disk_copy_in : ByteRange → List ℕ → Option FoundRange
disk_copy_in range file = if nat_le 84 range.len then disk_copy_of range (bytes_at range.start 84 file) else None
