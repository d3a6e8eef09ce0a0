-- MacBinary II and III files, taken apart: a header of 128 bytes, maybe a second header, the data fork, the resource fork.
use Rattle.std.specs.Prelude.{ℕ, ◌+◌, Bool, ◌&&◌, ◌||◌, ◌==◌, nat_le, if◌then◌else◌, List, Option, Some, None, length, take, slice_index}
use Rattle.hfs_fields.specs.Numbers.{number_at}
use Rattle.hfs_fields.specs.Mdb.{bytes_at}
use Rattle.hfs_fields.specs.Records.{is_bit_set}
use Rattle.hfs_encodings.specs.Crc.{crc16}
use Rattle.hfs_encodings.specs.MacBinary.{finder_info_in, padding}
use Rattle.hfs_encodings.specs.Names.{given_name}
use Rattle.hfs_encodings.specs.declared.forks.ForkPlace.{ForkPlace}
use Rattle.hfs_encodings.specs.declared.incoming_macbinary.MacBinaryFile.{MacBinaryFile}

-- the number of MacBinary II, or that of III
abbrev pub is_version : ℕ → Bool
is_version byte = byte == 129 || byte == 130

-- three zeros, a name of 1 to 63 bytes, the version that wrote it and the one that it asks for, and the check
unfoldable pub is_macbinary_head : List ℕ → Bool
is_macbinary_head head =
    (slice_index head 0 == 0) && nat_le 1 (slice_index head 1) && nat_le (slice_index head 1) 63 && (slice_index head 74 == 0) && (slice_index head 82 == 0)
    && is_version (slice_index head 122) && is_version (slice_index head 123) && (number_at 124 2 head == crc16 (take 124 head))

-- so many bytes, filled up to a multiple of 128
abbrev pub filled_length : ℕ → ℕ
filled_length len = len + padding len

-- the data fork follows both headers; of the second header the length is given
unfoldable pub data_place : List ℕ → ForkPlace
data_place head = record { start = 128 + filled_length (number_at 120 2 head); len = number_at 83 4 head }

-- the resource fork follows the data fork
unfoldable pub resource_place : List ℕ → ForkPlace
resource_place head = record { start = (data_place head).start + filled_length (data_place head).len; len = number_at 87 4 head }

-- where the file ends
unfoldable pub macbinary_end : List ℕ → ℕ
macbinary_end head = (resource_place head).start + filled_length (resource_place head).len

unfoldable pub macbinary_of : List ℕ → MacBinaryFile
macbinary_of head = record {
  name = given_name (bytes_at 2 (slice_index head 1) head);
  finder_info = finder_info_in head;
  locked = is_bit_set 0 (slice_index head 81);
  created = number_at 91 4 head;
  modified = number_at 95 4 head;
  data_fork = data_place head;
  resource_fork = resource_place head;
}

-- what the header says about a file of so many bytes, where they are header and forks and nothing else
unfoldable pub macbinary_with : ℕ → List ℕ → Option MacBinaryFile
macbinary_with len head = if is_macbinary_head head && (len == macbinary_end head) then Some (macbinary_of head) else None

-- what a file holds that is MacBinary
unfoldable pub macbinary_in : List ℕ → Option MacBinaryFile
macbinary_in file = if nat_le 128 (length file) then macbinary_with (length file) (bytes_at 0 128 file) else None
