-- The bodies of the catalog's records. Each reader is a total function; the tests say which bytes it is meant for.
use Rattle.std.specs.Prelude.{ℕ, ◌+◌, ◌*◌, ◌/◌, ◌%◌, ◌^◌, Bool, ◌&&◌, ◌||◌, ◌==◌, nat_le, if◌then◌else◌, List, replicate, length, slice_index}
use Rattle.hfs_fields.specs.Numbers.{number_at}
use Rattle.hfs_fields.specs.Mdb.{bytes_at, extents_at}
use Rattle.hfs_fields.specs.Keys.{name_len, name_at}
use Rattle.hfs_fields.specs.declared.extent.Extent.{Extent}
use Rattle.hfs_fields.specs.declared.dir_record.DirRecord.{DirRecord}
use Rattle.hfs_fields.specs.declared.file_record.FileRecord.{FileRecord}
use Rattle.hfs_fields.specs.declared.file_record.ForkRecord.{ForkRecord}
use Rattle.hfs_fields.specs.declared.thread_record.ThreadKind.{ThreadKind}
use Rattle.hfs_fields.specs.declared.thread_record.ThreadKind.TheVariants.{Folder, File}
use Rattle.hfs_fields.specs.declared.thread_record.ThreadRecord.{ThreadRecord}

-- ---- which record a body is

-- the type of a record, its first byte
abbrev pub type_byte : List ℕ → ℕ
type_byte body = slice_index body 0

abbrev pub is_dir : List ℕ → Bool
is_dir body = (type_byte body == 1) && (length body == 70)

abbrev pub is_file : List ℕ → Bool
is_file body = (type_byte body == 2) && (length body == 102)

abbrev pub is_dir_thread : List ℕ → Bool
is_dir_thread body = (type_byte body == 3) && (length body == 46)

abbrev pub is_file_thread : List ℕ → Bool
is_file_thread body = (type_byte body == 4) && (length body == 46)

abbrev pub is_item : List ℕ → Bool
is_item body = is_dir body || is_file body

abbrev pub is_thread : List ℕ → Bool
is_thread body = is_dir_thread body || is_file_thread body

-- ---- whether bytes begin with a record that can be read

unfoldable pub begins_dir : List ℕ → Bool
begins_dir bytes = nat_le 70 (length bytes) && (type_byte bytes == 1)

unfoldable pub begins_file : List ℕ → Bool
begins_file bytes = nat_le 102 (length bytes) && (type_byte bytes == 2)

-- the name of a thread has a length byte at place 14
abbrev pub has_short_name : List ℕ → Bool
has_short_name bytes = nat_le (name_len 14 bytes) 31

unfoldable pub begins_thread : List ℕ → Bool
begins_thread bytes = nat_le 46 (length bytes) && ((type_byte bytes == 3) || (type_byte bytes == 4)) && has_short_name bytes

-- ---- the fields

unfoldable pub dir_record_of : List ℕ → DirRecord
dir_record_of bytes = record {
  reserved = slice_index bytes 1;
  flags = number_at 2 2 bytes;
  valence = number_at 4 2 bytes;
  id = number_at 6 4 bytes;
  created = number_at 10 4 bytes;
  modified = number_at 14 4 bytes;
  backup = number_at 18 4 bytes;
  finder_info = bytes_at 22 16 bytes;
  extended_finder_info = bytes_at 38 16 bytes;
  reserved_area = bytes_at 54 16 bytes;
}

-- a fork's numbers at one place, and its extents at another
abbrev pub fork_at : ℕ → ℕ → List ℕ → ForkRecord
fork_at i extents bytes = record {
  first_block = number_at i 2 bytes;
  length = number_at (i + 2) 4 bytes;
  physical_length = number_at (i + 6) 4 bytes;
  extents = extents_at extents bytes;
}

unfoldable pub file_record_of : List ℕ → FileRecord
file_record_of bytes = record {
  reserved = slice_index bytes 1;
  flags = record { 0 = slice_index bytes 2 };
  file_type = slice_index bytes 3;
  finder_info = bytes_at 4 16 bytes;
  id = number_at 20 4 bytes;
  «data» = fork_at 24 74 bytes;
  resource = fork_at 34 86 bytes;
  created = number_at 44 4 bytes;
  modified = number_at 48 4 bytes;
  backup = number_at 52 4 bytes;
  extended_finder_info = bytes_at 56 16 bytes;
  clump_size = number_at 72 2 bytes;
  reserved_area = bytes_at 98 4 bytes;
}

-- the type 3 is a folder's thread
abbrev pub thread_kind_of : ℕ → ThreadKind
thread_kind_of byte = if byte == 3 then Folder else File

unfoldable pub thread_record_of : List ℕ → ThreadRecord
thread_record_of bytes = record {
  kind = thread_kind_of (type_byte bytes);
  reserved = slice_index bytes 1;
  reserved_area = bytes_at 2 8 bytes;
  parent = number_at 10 4 bytes;
  name = name_at 14 bytes;
}

-- a folder's or a file's ID
abbrev pub item_id : List ℕ → ℕ
item_id body = if is_dir body then (dir_record_of body).id else (file_record_of body).id

-- ---- a file's flags

-- whether bit k is set, counted from the lowest
abbrev pub is_bit_set : ℕ → ℕ → Bool
is_bit_set k flags = flags / 2 ^ k % 2 == 1

-- the flags with bit k as said, the bits above and below it as they were
abbrev pub with_bit : ℕ → Bool → ℕ → ℕ
with_bit k set flags = flags / 2 ^ (k + 1) * 2 ^ (k + 1) + (if set then 2 ^ k else 0) + flags % 2 ^ k

-- ---- new records

-- a new folder has its ID and the moment of its making, and zeros
unfoldable pub new_dir : ℕ → ℕ → DirRecord
new_dir id now = record {
  reserved = 0;
  flags = 0;
  valence = 0;
  id = id;
  created = now;
  modified = now;
  backup = 0;
  finder_info = replicate 16 0;
  extended_finder_info = replicate 16 0;
  reserved_area = replicate 16 0;
}

abbrev pub no_extents : List Extent
no_extents = replicate 3 (record { first = 0; count = 0 })

abbrev pub empty_fork : ForkRecord
empty_fork = record { first_block = 0; length = 0; physical_length = 0; extents = no_extents }

-- a new file has its ID, the moment of its making, the flag of a record in use, and zeros
unfoldable pub new_file : ℕ → ℕ → FileRecord
new_file id now = record {
  reserved = 0;
  flags = record { 0 = 128 };
  file_type = 0;
  finder_info = replicate 16 0;
  id = id;
  «data» = empty_fork;
  resource = empty_fork;
  created = now;
  modified = now;
  backup = 0;
  extended_finder_info = replicate 16 0;
  clump_size = 0;
  reserved_area = replicate 4 0;
}

-- a new thread says where an item is, and has zeros
unfoldable pub new_thread : ThreadKind → ℕ → List ℕ → ThreadRecord
new_thread kind parent name = record { kind = kind; reserved = 0; reserved_area = replicate 8 0; parent = parent; name = name }
