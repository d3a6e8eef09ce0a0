-- Paths of things, below the payload.
use Rattle.std.specs.Prelude.{◌≡◌, ℕ, zero, suc, ◌+◌, ◌-◌, ◌^◌, ◌<◌, Bool, true, false, ◌&&◌, ◌||◌, ◌==◌, nat_lt, if◌then◌else◌, List, [], ◌++◌, length, codes, map, Option, Some, None, slice_index_or, String, string_bytes, IfSome}
use Rattle.std.specs.Global.{Global}
use Rattle.std.specs.Fmt.{decimal}
use Rattle.std.specs.List.{position_from}
use Rattle.std.specs.Option.{is_some, option_map_or}
use Rattle.hfs_catalog.specs.Indexes.{is_place}
use Rattle.hfs_remains_places.specs.declared.things.Thing.{Thing}
use Rattle.hfs_remains_places.specs.Things.{folder_of}
use Rattle.hfs_remains_places.specs.Folders.{is_folder_of, thing_at}
use Rattle.hfs_remains_places.specs.Entries.{entries_of}
use Rattle.hfs_remains_places.specs.Chains.{place_at, ups_of, is_endless, endless_of}

-- ---- a thing by its place

abbrev pub entry_at : List Thing → ℕ → List ℕ
entry_at things i = slice_index_or (entries_of things) i []

-- the thing is the folder of its number
abbrev pub is_folder_at : List Thing → ℕ → Bool
is_folder_at things i = option_map_or (λ number. is_place (folder_of things number) i) (thing_at things i).folder false

-- ---- paths

unfoldable pub within : List ℕ → List ℕ → List ℕ
within above entry = above ++ (codes "/" ++ entry)

-- where a thing lies whose parent has no folder, or which can't lie in it
unfoldable pub lost : ℕ → List ℕ → List ℕ
lost parent entry = codes "=lost/" ++ (decimal parent ++ (codes "/" ++ entry))

abbrev pub lost_at : List Thing → ℕ → List ℕ
lost_at things i = lost (thing_at things i).parent (entry_at things i)

-- the folder of a number does not lie in a folder whose path has so many bytes: its chain has no end, or its path would be too long
abbrev pub is_cut : List Thing → ℕ → ℕ → Bool
is_cut things i above = is_folder_at things i && (is_endless (ups_of things) i || nat_lt 800 (above + 1 + length (entry_at things i)))

-- the path of a thing above which there is a folder with this path
abbrev pub path_in : List Thing → ℕ → List ℕ → List ℕ
path_in things i above = if is_cut things i (length above) then lost_at things i else within above (entry_at things i)

-- the path of a thing by the place of its parent's folder, and the paths of folders
abbrev pub path_by : List Thing → ℕ → Option ℕ → (ℕ → List ℕ) → List ℕ
path_by things i None below = if (thing_at things i).parent == 2 then entry_at things i else lost_at things i
path_by things i (Some p) below = path_in things i (below p)

-- the path by so many steps up
unfoldable pub path_at : List Thing → ℕ → ℕ → List ℕ
path_at things zero i = []
path_at things (suc k) i = path_by things i (place_at (ups_of things) i) (path_at things k)

-- two steps more than any chain has that ends
unfoldable pub path : List Thing → ℕ → List ℕ
path things i = path_at things (2 ^ 32 + 2) i

-- ---- where an item is put

-- the first folder with the number 2 in 1 is the root, the payload itself
abbrev pub is_root : Thing → Bool
is_root thing = is_folder_of 2 thing && (thing.parent == 1)

abbrev pub root_of : List Thing → Option ℕ
root_of things = position_from is_root 0 things

-- what an item lies below where its record is old
abbrev pub front_of : Thing → List ℕ
front_of thing = if thing.old then codes "=old/" else []

-- the path of an item below the payload: none of the root's
unfoldable pub payload_path : List Thing → ℕ → List ℕ
payload_path things i = if is_place (root_of things) i then [] else front_of (thing_at things i) ++ path things i

-- ---- paths that are known

-- the texts that are there are the things' paths
abbrev pub AreRight : List Thing → List (Option (String Global)) → Type 0
AreRight things paths = (i : ℕ) → IfSome (slice_index_or paths i None) (λ text. string_bytes text ≡ path things i)

-- those that were there are there
abbrev pub Keeps : List (Option (String Global)) → List (Option (String Global)) → Type 0
Keeps old new = (i : ℕ) → is_some (slice_index_or old i None) ≡ true → is_some (slice_index_or new i None) ≡ true

abbrev pub IsKnown : List (Option (String Global)) → ℕ → Type 0
IsKnown paths i = is_some (slice_index_or paths i None) ≡ true

-- a thing's path can be made: there is no folder above it, or that one's path is known
abbrev pub IsReady : List Thing → List (Option (String Global)) → ℕ → Type 0
IsReady things paths i = IfSome (place_at (ups_of things) i) (IsKnown paths)

-- each place of a row is that of the folder above the one before it
abbrev pub IsChain : List Thing → List ℕ → Type 0
IsChain things row = (k : ℕ) → k + 1 < length row → place_at (ups_of things) (slice_index_or row k 0) ≡ Some (slice_index_or row (k + 1) 0)

-- the places are those of things
abbrev pub AreWithin : ℕ → List ℕ → Type 0
AreWithin n row = (k : ℕ) → k < length row → slice_index_or row k 0 < n

-- the row begins with this place, or it has none, since the path is known
abbrev pub BeginsAt : List (Option (String Global)) → List ℕ → ℕ → Type 0
BeginsAt paths row i = (length row ≡ 0 → IsKnown paths i) × (0 < length row → slice_index_or row 0 0 ≡ i)

-- the path of the last one can be made
abbrev pub EndsReady : List Thing → List (Option (String Global)) → List ℕ → Type 0
EndsReady things paths row = 0 < length row → IsReady things paths (slice_index_or row (length row - 1) 0)

-- the places from one up, as far as their paths are not known
pub record IsRow (things : List Thing) (paths : List (Option (String Global))) (row : List ℕ) (i : ℕ) : Type 0 where
  pub chain : IsChain things row
  pub within : AreWithin (length things) row
  pub begins : BeginsAt paths row i
  pub ends : EndsReady things paths row

-- the paths of all folders are known
abbrev pub AreKnown : List Thing → List (Option (String Global)) → Type 0
AreKnown things paths = (i : ℕ) → i < length things → is_folder_at things i ≡ true → IsKnown paths i

-- entries, endless chains, folders' paths and the root's place are those of the things
pub record ArePlaces (things : List Thing) (entries : List (String Global)) (endless : List Bool) (paths : List (Option (String Global))) (root : Option ℕ) : Type 0 where
  pub entries_are : map string_bytes entries ≡ entries_of things
  pub entries_all : length entries ≡ length things
  pub endless_are : endless ≡ endless_of (ups_of things)
  pub endless_all : length endless ≡ length things
  pub all : length paths ≡ length things
  pub right : AreRight things paths
  pub known : AreKnown things paths
  pub root_is : root ≡ root_of things
