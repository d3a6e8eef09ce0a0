-- AppleDouble files, version 2, with their parts in any order: a head of 26 bytes, an entry of 12 for each part, and the parts.
use Rattle.std.specs.Prelude.{ℕ, zero, suc, ◌+◌, ◌*◌, ◌-◌, ◌≤◌, min, IfSome, Bool, ◌&&◌, ◌==◌, nat_le, if◌then◌else◌, List, ◌++◌, Option, Some, None, length, replicate}
use Rattle.std.specs.Option.{option_or}
use Rattle.hfs_fields.specs.Numbers.{number_at}
use Rattle.hfs_fields.specs.Mdb.{bytes_at}
use Rattle.hfs_encodings.specs.declared.incoming_apple_double.AppleDoubleFile.{AppleDoubleFile}
use Rattle.hfs_encodings.specs.declared.incoming_apple_double.FileDates.{FileDates}
use Rattle.hfs_encodings.specs.declared.incoming_apple_double.FoundParts.{FoundParts}
use Rattle.hfs_encodings.specs.declared.forks.ForkPlace.{ForkPlace}
use Rattle.hfs_encodings.specs.Dates.{mac_date}

-- ---- the entries

-- where the part lies that an entry describes
abbrev pub entry_place : List ℕ → ForkPlace
entry_place entry = record { start = number_at 4 4 entry; len = number_at 8 4 entry }

-- the part lies in a file of so many bytes
abbrev pub lies_within : ℕ → ForkPlace → Bool
lies_within len place = nat_le (place.start + place.len) len

-- with one entry more: of two for the same part the first counts
unfoldable pub with_entry : List ℕ → FoundParts → FoundParts
with_entry entry parts =
    if number_at 0 4 entry == 9 then record { finder = option_or parts.finder (Some (entry_place entry)); resource = parts.resource; dates = parts.dates }
    else if number_at 0 4 entry == 2 then record { finder = parts.finder; resource = option_or parts.resource (Some (entry_place entry)); dates = parts.dates }
    else if number_at 0 4 entry == 8 then record { finder = parts.finder; resource = parts.resource; dates = option_or parts.dates (Some (entry_place entry)) }
    else parts

-- with so many entries from a place on, where all their parts lie in the file of so many bytes
unfoldable pub with_entries : ℕ → ℕ → ℕ → FoundParts → List ℕ → Option FoundParts
with_entries zero at len parts file = Some parts
with_entries (suc n) at len parts file =
    if lies_within len (entry_place (bytes_at at 12 file)) then with_entries n (at + 12) len (with_entry (bytes_at at 12 file) parts) file else None

abbrev pub no_parts : FoundParts
no_parts = record { finder = None; resource = None; dates = None }

-- the number of AppleDouble, that of version 2, and as many entries as there is room for
unfoldable pub is_apple_double_head : ℕ → List ℕ → Bool
is_apple_double_head len head = (number_at 0 4 head == 333319) && (number_at 4 4 head == 131072) && nat_le (26 + 12 * number_at 24 2 head) len

-- the parts of a file of so many bytes
unfoldable pub parts_with : ℕ → List ℕ → List ℕ → Option FoundParts
parts_with len head file = if is_apple_double_head len head then with_entries (number_at 24 2 head) 26 len no_parts file else None

unfoldable pub parts_in : ℕ → List ℕ → Option FoundParts
parts_in len file = if nat_le 26 len then parts_with len (bytes_at 0 26 file) file else None

-- ---- the parts

-- the first 32 bytes of what the Finder keeps, with zeros at the end where there are fewer
unfoldable pub finder_in : Option ForkPlace → List ℕ → List ℕ
finder_in None file = replicate 32 0
finder_in (Some place) file = bytes_at place.start (min place.len 32) file ++ replicate (32 - min place.len 32) 0

-- created, modified and backup
abbrev pub dates_of : List ℕ → FileDates
dates_of bytes = record { created = mac_date (number_at 0 4 bytes); modified = mac_date (number_at 4 4 bytes); backup = mac_date (number_at 8 4 bytes) }

-- the dates, where the part has all four
unfoldable pub dates_in : Option ForkPlace → List ℕ → Option FileDates
dates_in None file = None
dates_in (Some place) file = if nat_le 16 place.len then Some (dates_of (bytes_at place.start 16 file)) else None

-- an empty fork where there is none
abbrev pub fork_of : Option ForkPlace → ForkPlace
fork_of None = record { start = 0; len = 0 }
fork_of (Some place) = place

unfoldable pub apple_double_of : Option FoundParts → List ℕ → Option AppleDoubleFile
apple_double_of None file = None
apple_double_of (Some parts) file = Some (record { finder = finder_in parts.finder file; dates = dates_in parts.dates file; resource_fork = fork_of parts.resource })

-- what a file holds that is AppleDouble
unfoldable pub apple_double_in : List ℕ → Option AppleDoubleFile
apple_double_in file = apple_double_of (parts_in (length file) file) file

-- ---- where they lie

-- a part, where there is one, lies in a file of so many bytes
abbrev pub PartLies : ℕ → Option ForkPlace → Type 0
PartLies len part = IfSome part (λ place. place.start + place.len ≤ len)

pub record PartsLie (len : ℕ) (parts : FoundParts) : Type 0 where
  pub finder : PartLies len parts.finder
  pub resource : PartLies len parts.resource
  pub dates : PartLies len parts.dates
