-- MacBinary: a header of 128 bytes, maybe a second header, the data fork, the resource fork.
use Rattle.std.specs.Prelude.{ℕ, ◌+◌, ◌*◌, ◌/◌, Bool, ◌&&◌, ◌==◌, nat_le, if◌then◌else◌, List, Option, Some, None, slice_index}
use Rattle.std.specs.Option.{option_and_then, option_or}
use Rattle.hfs_fields.specs.Numbers.{number_at}
use Rattle.hfs_fields.specs.Mdb.{bytes_at}
use Rattle.hfs_source.specs.declared.ranges.ByteRange.{ByteRange}
use Rattle.hfs_source.specs.declared.ranges.Container.TheVariants.{MacBinary}
use Rattle.hfs_source.specs.declared.ranges.FoundRange.{FoundRange}
use Rattle.hfs_source.specs.Ranges.{range_of, volume_as}
use Rattle.hfs_source.specs.DiskCopy.{disk_copy_in}

-- a zero, a name of 1 to 63 characters, and two zeros more
unfoldable pub is_macbinary_head : List ℕ → Bool
is_macbinary_head head =
    (slice_index head 0 == 0) && nat_le 1 (slice_index head 1) && nat_le (slice_index head 1) 63 && (slice_index head 74 == 0) && (slice_index head 82 == 0)

-- so many bytes, filled up to a multiple of 128
abbrev pub filled : ℕ → ℕ
filled len = (len + 127) / 128 * 128

-- the data fork stands behind both headers; of the second the length is told
abbrev pub data_fork_behind : List ℕ → ByteRange
data_fork_behind head = range_of (128 + filled (number_at 120 2 head)) (number_at 83 4 head)

-- the data fork of a file of so many bytes with this header
unfoldable pub data_fork_of : ℕ → List ℕ → Option ByteRange
data_fork_of len head =
    if is_macbinary_head head && nat_le (128 + filled (number_at 120 2 head) + number_at 83 4 head) len then Some (data_fork_behind head) else None

-- the data fork of the file, which has so many bytes
unfoldable pub data_fork_in : ℕ → List ℕ → Option ByteRange
data_fork_in len file = if nat_le 128 len then data_fork_of len (bytes_at 0 128 file) else None

-- in a data fork a disk copy, or else a volume
unfoldable pub found_in_fork : ByteRange → List ℕ → Option FoundRange
found_in_fork fork file = option_or (disk_copy_in fork file) (volume_as MacBinary fork file)

unfoldable pub macbinary_in : ℕ → List ℕ → Option FoundRange
macbinary_in len file = option_and_then (λ fork. found_in_fork fork file) (data_fork_in len file)
