-- Partition maps: entries in the blocks from 1 on, each with a partition's type, first block and blocks.
use Rattle.std.specs.Prelude.{ℕ, ◌+◌, ◌-◌, ◌*◌, ◌/◌, min, Bool, ◌&&◌, ◌==◌, nat_le, if◌then◌else◌, List, [], ◌∷◌, map, Option, Some, None}
use Rattle.std.specs.List.{flat_map, range_with_len, take_while}
use Rattle.std.specs.Option.{option_to_list}
use Rattle.std.specs.Str.{str_eq_ignore_ascii_case}
use Rattle.hfs_fields.specs.Numbers.{number_at}
use Rattle.hfs_fields.specs.Mdb.{bytes_at}
use Rattle.hfs_source.specs.declared.ranges.ByteRange.{ByteRange}
use Rattle.hfs_source.specs.declared.ranges.Container.TheVariants.{Partition}
use Rattle.hfs_source.specs.declared.ranges.FoundRange.{FoundRange}
use Rattle.hfs_source.specs.Ranges.{range_of, found_as}

-- the letters PM
unfoldable pub begins_pm : List ℕ → Bool
begins_pm block = number_at 0 2 block == 20557

-- whether a map begins at this byte
unfoldable pub has_map_at : ℕ → ℕ → List ℕ → Bool
has_map_at place len file = nat_le (place + 2) len && begins_pm (bytes_at place 2 file)

-- how many bytes the blocks of the file's map have
unfoldable pub map_block_in : ℕ → List ℕ → Option ℕ
map_block_in len file = if has_map_at 512 len file then Some 512 else if has_map_at 2048 len file then Some 2048 else None

-- what is read of block n
abbrev pub entry_at : ℕ → List ℕ → ℕ → List ℕ
entry_at block file n = bytes_at (block * n) 64 file

-- how many entries there are: as many as the first says, as the file has room for, and 63 at most
unfoldable pub entry_count : ℕ → ℕ → List ℕ → ℕ
entry_count block len file = min 63 (min (len / block - 1) (number_at 4 4 (entry_at block file 1)))

-- Apple_HFS, in whatever case its ASCII letters are, and a zero byte
abbrev pub hfs_type : List ℕ
hfs_type = 65 ∷ 112 ∷ 112 ∷ 108 ∷ 101 ∷ 95 ∷ 72 ∷ 70 ∷ 83 ∷ 0 ∷ []

unfoldable pub is_hfs_entry : List ℕ → Bool
is_hfs_entry entry = str_eq_ignore_ascii_case (bytes_at 48 10 entry) hfs_type

-- the range, cut at the end of a file of so many bytes: it has none where it begins behind that
abbrev pub cut_at : ℕ → ℕ → ℕ → ByteRange
cut_at len start wanted = range_of start (min wanted (len - start))

-- the partition that an entry tells of, where it is of HFS
unfoldable pub partition_of : ℕ → ℕ → List ℕ → Option FoundRange
partition_of block len entry =
    if is_hfs_entry entry then Some (found_as Partition (cut_at len (block * number_at 8 4 entry) (block * number_at 12 4 entry))) else None

-- the entries, up to the first block that is none
abbrev pub entries_in : ℕ → List ℕ → List ℕ → List (List ℕ)
entries_in block file numbers = take_while begins_pm (map (entry_at block file) numbers)

-- the partitions of the entries in these blocks
unfoldable pub partitions_among : ℕ → ℕ → List ℕ → List ℕ → List FoundRange
partitions_among block len numbers file = flat_map (λ entry. option_to_list (partition_of block len entry)) (entries_in block file numbers)

-- the partitions of the file's map
abbrev pub partitions_of_map : ℕ → List ℕ → Option ℕ → List FoundRange
partitions_of_map len file None = []
partitions_of_map len file (Some block) = partitions_among block len (range_with_len 1 (entry_count block len file)) file

unfoldable pub partitions_in : ℕ → List ℕ → List FoundRange
partitions_in len file = partitions_of_map len file (map_block_in len file)
