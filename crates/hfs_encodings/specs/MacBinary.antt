-- MacBinary II files: an item with both forks as one row of bytes.
use Rattle.std.specs.Prelude.{◌≡◌, ℕ, ◌+◌, ◌-◌, ◌%◌, ◌^◌, ◌<◌, ◌≤◌, Bool, ◌&&◌, ◌==◌, nat_le, if◌then◌else◌, List, [], ◌∷◌, ◌++◌, length, take, replicate, slice_index, IsTrue}
use Rattle.byteorder.specs.Endian.{big_bytes}
use Rattle.hfs_fields.specs.Numbers.{number_at}
use Rattle.hfs_fields.specs.Mdb.{bytes_at}
use Rattle.hfs_fields.specs.Records.{is_bit_set}
use Rattle.hfs_encodings.specs.Crc.{crc16}
use Rattle.hfs_encodings.specs.declared.macbinary.MacBinaryHead.{MacBinaryHead}

-- what the program's headers keep
pub record IsMacBinaryHeadValue (head : MacBinaryHead) : Type 0 where
  pub name : length head.name ≤ 31
  pub finder_info : length head.finder_info ≡ 16
  pub data_length : head.data_length < 2 ^ 32
  pub resource_length : head.resource_length < 2 ^ 32
  pub created : head.created < 2 ^ 32
  pub modified : head.modified < 2 ^ 32

-- bit 0 says that the file is locked
abbrev pub lock_byte : Bool → ℕ
lock_byte locked = if locked then 1 else 0

-- the header's first 124 bytes, of which the check is made. The Finder's flags, bytes 8 and 9 of what it keeps, are parted: the high byte is at 73, the low one at 101
unfoldable pub macbinary_fields : MacBinaryHead → List ℕ
macbinary_fields head =
    0 ∷ length head.name ∷ [] ++ head.name ++ replicate (63 - length head.name) 0
    ++ bytes_at 0 8 head.finder_info ++ slice_index head.finder_info 8 ∷ 0 ∷ [] ++ bytes_at 10 6 head.finder_info ++ lock_byte head.locked ∷ 0 ∷ []
    ++ big_bytes 4 head.data_length ++ big_bytes 4 head.resource_length ++ big_bytes 4 head.created ++ big_bytes 4 head.modified
    ++ 0 ∷ 0 ∷ slice_index head.finder_info 9 ∷ [] ++ replicate 20 0 ++ 129 ∷ 129 ∷ []

-- the header, 128 bytes
unfoldable pub macbinary_head_bytes : MacBinaryHead → List ℕ
macbinary_head_bytes head = macbinary_fields head ++ big_bytes 2 (crc16 (macbinary_fields head)) ++ 0 ∷ 0 ∷ []

-- how many zeros fill up so many bytes to a multiple of 128
abbrev pub padding : ℕ → ℕ
padding len = (128 - len % 128) % 128

-- a fork, filled up
unfoldable pub filled : List ℕ → List ℕ
filled fork = fork ++ replicate (padding (length fork)) 0

-- the whole file
abbrev pub macbinary_bytes : MacBinaryHead → List ℕ → List ℕ → List ℕ
macbinary_bytes head data_fork resource_fork = macbinary_head_bytes head ++ filled data_fork ++ filled resource_fork

-- ---- what is read

-- whether the file begins with a header of this form: its zeros, a name that HFS can have, no second header, a version that needs no more, and the check
unfoldable pub begins_macbinary : List ℕ → Bool
begins_macbinary file =
    nat_le 128 (length file) && (slice_index file 0 == 0) && nat_le 1 (slice_index file 1) && nat_le (slice_index file 1) 31 && (slice_index file 74 == 0)
    && (slice_index file 82 == 0) && (number_at 120 2 file == 0) && nat_le (slice_index file 123) 129 && (number_at 124 2 file == crc16 (take 124 file))

-- type, creator, flags, location and folder
abbrev pub finder_info_in : List ℕ → List ℕ
finder_info_in file = bytes_at 65 8 file ++ slice_index file 73 ∷ slice_index file 101 ∷ [] ++ bytes_at 75 6 file

unfoldable pub macbinary_head_of : List ℕ → MacBinaryHead
macbinary_head_of file = record {
  name = bytes_at 2 (slice_index file 1) file;
  finder_info = finder_info_in file;
  locked = is_bit_set 0 (slice_index file 81);
  data_length = number_at 83 4 file;
  resource_length = number_at 87 4 file;
  created = number_at 91 4 file;
  modified = number_at 95 4 file;
}

-- where the data fork ends and the resource fork begins
abbrev pub resource_place : MacBinaryHead → ℕ
resource_place head = 128 + (head.data_length + padding head.data_length)

abbrev pub data_fork_at : MacBinaryHead → List ℕ → List ℕ
data_fork_at head file = bytes_at 128 head.data_length file

abbrev pub resource_fork_at : MacBinaryHead → List ℕ → List ℕ
resource_fork_at head file = bytes_at (resource_place head) head.resource_length file

-- header and forks come back from the file
pub record HoldsMacBinary (head : MacBinaryHead) (data_fork resource_fork file : List ℕ) : Type 0 where
  pub begins : IsTrue (begins_macbinary file)
  pub head_is : macbinary_head_of file ≡ head
  pub data_is : data_fork_at head file ≡ data_fork
  pub resource_is : resource_fork_at head file ≡ resource_fork
