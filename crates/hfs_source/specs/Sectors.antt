-- Raw CD sectors of 2,352 bytes: which of them have user data, and where.
use Rattle.std.specs.Prelude.{ℕ, ◌+◌, ◌/◌, ◌%◌, Bool, ◌&&◌, ◌==◌, nat_le, if◌then◌else◌, List, [], ◌++◌, length, take, drop, replicate, zero, suc, Option, None, Some, slice_index}
use Rattle.std.specs.Option.{is_some}
use Rattle.hfs_fields.specs.Numbers.{number_at}
use Rattle.hfs_fields.specs.Mdb.{bytes_at}

-- the pattern that begins a sector: 00, ten FF, 00
unfoldable pub has_pattern : List ℕ → Bool
has_pattern head = (number_at 0 4 head == 16777215) && (number_at 4 4 head == 4294967295) && (number_at 8 4 head == 4294967040)

-- after the pattern are three bytes of an address, and the mode; after mode 2 a subheader, whose third byte says the form: bit 5 is 0 in form 1
unfoldable pub is_mode_2_form_1 : List ℕ → Bool
is_mode_2_form_1 head = (slice_index head 15 == 2) && (slice_index head 18 / 32 % 2 == 0)

-- where the user data begins in a sector of this mode
unfoldable pub start_by_mode : List ℕ → Option ℕ
start_by_mode head = if slice_index head 15 == 1 then Some 16 else if is_mode_2_form_1 head then Some 24 else None

-- where the user data begins in a sector with these first 24 bytes; no other sector has any
unfoldable pub data_start : List ℕ → Option ℕ
data_start head = if has_pattern head then start_by_mode head else None

-- the 2,048 bytes from there on, and zeros where there are none
abbrev pub data_from : Option ℕ → List ℕ → List ℕ
data_from None sector = replicate 2048 0
data_from (Some start) sector = bytes_at start 2048 sector

-- the user data of a sector
unfoldable pub sector_data : List ℕ → List ℕ
sector_data sector = data_from (data_start (take 24 sector)) sector

-- the user data of so many sectors
unfoldable pub data_of : ℕ → List ℕ → List ℕ
data_of zero file = []
data_of (suc n) file = sector_data (take 2352 file) ++ data_of n (drop 2352 file)

-- how many sectors a file has, and their user data
abbrev pub sector_count : List ℕ → ℕ
sector_count file = length file / 2352

abbrev pub user_data_of : List ℕ → List ℕ
user_data_of file = data_of (sector_count file) file

-- a sector counts where it has no user data
abbrev pub count_without : Option ℕ → ℕ
count_without None = 1
count_without (Some start) = 0

-- how many of so many sectors have no user data
unfoldable pub others_of : ℕ → List ℕ → ℕ
others_of zero file = 0
others_of (suc n) file = count_without (data_start (take 24 file)) + others_of n (drop 2352 file)

abbrev pub other_count : List ℕ → ℕ
other_count file = others_of (sector_count file) file

-- whether so many bytes are whole sectors
unfoldable pub are_whole_sectors : ℕ → Bool
are_whole_sectors len = nat_le 2352 len && (len % 2352 == 0)

-- whether a file is of raw sectors: it has whole ones, and the first has user data
unfoldable pub is_raw : List ℕ → Bool
is_raw file = are_whole_sectors (length file) && is_some (data_start (take 24 file))
