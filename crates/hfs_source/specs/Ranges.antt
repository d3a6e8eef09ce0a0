-- Ranges of a file's bytes, and the volumes that they hold.
use Rattle.std.specs.Prelude.{ℕ, ◌+◌, ◌==◌, nat_le, if◌then◌else◌, List, Option, Some, None}
use Rattle.std.specs.Option.{option_map}
use Rattle.hfs_fields.specs.Numbers.{number_at}
use Rattle.hfs_fields.specs.Mdb.{bytes_at}
use Rattle.hfs_source.specs.declared.ranges.ByteRange.{ByteRange}
use Rattle.hfs_source.specs.declared.ranges.Container.{Container}
use Rattle.hfs_source.specs.declared.ranges.FoundRange.{FoundRange}

-- the range of these bytes
abbrev pub range_of : ℕ → ℕ → ByteRange
range_of start len = record { start = start; len = len }

-- the bytes of a range
abbrev pub bytes_in : ByteRange → List ℕ → List ℕ
bytes_in range file = bytes_at range.start range.len file

-- a range that lies in the file in this way
abbrev pub found_as : Container → ByteRange → FoundRange
found_as container range = record { container = container; range = range }

-- the name's field, 28 bytes from 36 on, of a master directory block whose signature is $4244
unfoldable pub signed_name : List ℕ → Option (List ℕ)
signed_name block = if number_at 0 2 block == 16964 then Some (bytes_at 36 28 block) else None

-- the name's field of the volume that a range holds: it has at least 1,536 bytes, and its master directory block stands at its byte 1,024
unfoldable pub volume_name_in : ByteRange → List ℕ → Option (List ℕ)
volume_name_in range file = if nat_le 1536 range.len then signed_name (bytes_at (range.start + 1024) 64 file) else None

-- the range, where it holds a volume
unfoldable pub volume_as : Container → ByteRange → List ℕ → Option FoundRange
volume_as container range file = option_map (λ _. found_as container range) (volume_name_in range file)
