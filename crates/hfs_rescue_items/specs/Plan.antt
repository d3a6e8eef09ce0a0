-- Which folders and files are made of what was found, in which order.
use Rattle.std.specs.Prelude.{◌≡◌, ℕ, ◌+◌, ◌-◌, ◌<◌, Bool, true, false, ◌&&◌, ◌||◌, ◌==◌, if◌then◌else◌, List, [], ◌∷◌, ◌++◌, length, slice_get, slice_index_or, take, Option, Some, None}
use Rattle.std.specs.List.{fold, list_any, range_with_len}
use Rattle.std.specs.Str.{bytes_eq}
use Rattle.std.proofs.Common.{Vec, Global}
use Rattle.hfs_bag.specs.declared.item.BagKind.{BagKind}
use Rattle.hfs_bag.specs.declared.item.BagKind.TheVariants as bag
use Rattle.hfs_fields.specs.Records.{is_dir}
use Rattle.hfs_remains.specs.declared.catalog.FoundRecord.{FoundRecord}
use Rattle.hfs_remains.specs.Items.{has_row}
use Rattle.hfs_remains_forks.specs.declared.shares.FileShares.{FileShares}
use Rattle.hfs_remains_forks.specs.Verdicts.{shares_at}
use Rattle.hfs_remains_places.specs.declared.verdict.Verdict.{Verdict}
use Rattle.hfs_remains_places.specs.declared.verdict.Verdict.TheVariants.{Left, Taken}
use Rattle.hfs_rescue_items.specs.declared.found.Found.{Found}
use Rattle.hfs_rescue_items.specs.declared.plan.Planned.{Planned}
use Rattle.hfs_rescue_items.specs.Found.{path_at}

-- ---- the parts of a path

-- the part before the first byte of a thing's path: a folder whose name is to come
abbrev pub first_part : ℕ → Planned
first_part i = record { place = i; from = 0; to = 0; kind = bag.FolderAlone }

-- a part and one more byte of the path: behind a slash another name begins
unfoldable pub part_behind : Planned → ℕ → Planned
part_behind part byte = record {
  place = part.place;
  from = if byte == 47 then part.to + 1 else part.from;
  to = part.to + 1;
  kind = part.kind;
}

-- the folder that ends before a byte: there is one where this is a slash
unfoldable pub folder_before : Planned → ℕ → List Planned
folder_before part byte = if byte == 47 then part ∷ [] else []

-- the folders that a path lies in, from the top down
abbrev pub folders_above : Planned → List ℕ → List Planned
folders_above part [] = []
folders_above part (byte ∷ rest) = folder_before part byte ++ folders_above (part_behind part byte) rest

-- the part with the last name
abbrev pub last_part : ℕ → List ℕ → Planned
last_part i path = fold part_behind (first_part i) path

-- ---- what is made already

abbrev pub makes_folder : BagKind → Bool
makes_folder bag.Folder = true
makes_folder bag.File = false
makes_folder bag.FolderAlone = true
makes_folder bag.DoubleAlone = false

abbrev pub path_of : Found → Planned → List ℕ
path_of found part = take part.to (path_at found.places.now part.place)

-- a part makes the folder at this path
abbrev pub makes : Found → List ℕ → Planned → Bool
makes found path part = makes_folder part.kind && bytes_eq (path_of found part) path

unfoldable pub is_made : Found → List Planned → List ℕ → Bool
is_made found parts path = list_any (makes found path) parts

-- ---- what is made of a thing

-- of a file its data fork and its AppleDouble file, or that alone where the data fork is left
abbrev pub file_kind : Option FileShares → BagKind
file_kind None = bag.DoubleAlone
file_kind (Some file) = if file.«data».taken then bag.File else bag.DoubleAlone

-- so it is told by what is said of the data fork
abbrev pub kind_by : Verdict → BagKind
kind_by Left = bag.DoubleAlone
kind_by (Taken finding) = bag.File

-- of a folder that was made before only its AppleDouble file; of a named folder nothing then
abbrev pub thing_kind : Found → ℕ → Bool → Option FoundRecord → Option BagKind
thing_kind found i made None = if made then None else Some bag.FolderAlone
thing_kind found i made (Some item) =
    Some (if is_dir item.entry.1 then (if made then bag.DoubleAlone else bag.Folder) else file_kind (shares_at found.salvage.now i))

unfoldable pub own_kind : Found → ℕ → Bool → Option BagKind
own_kind found i made = thing_kind found i made (slice_get found.items.now i)

-- ---- the plan

-- a folder comes where it isn't made yet
unfoldable pub with_folder : Found → List Planned → Planned → List Planned
with_folder found parts part = if is_made found parts (path_of found part) then parts else parts ++ part ∷ []

abbrev pub of_kind : BagKind → Planned → Planned
of_kind kind part = record { place = part.place; from = part.from; to = part.to; kind = kind }

abbrev pub with_kind : List Planned → Planned → Option BagKind → List Planned
with_kind parts part None = parts
with_kind parts part (Some kind) = parts ++ of_kind kind part ∷ []

abbrev pub with_own : Found → List Planned → Planned → List Planned
with_own found parts part = with_kind parts part (own_kind found part.place (is_made found parts (path_of found part)))

-- first the folders that it lies in, then itself
abbrev pub with_path : Found → ℕ → List ℕ → List Planned → List Planned
with_path found i path parts = with_own found (fold (with_folder found) parts (folders_above (first_part i) path)) (last_part i path)

-- nothing is made of the root, whose path is empty
unfoldable pub with_thing : Found → List Planned → ℕ → List Planned
with_thing found parts i = if length (path_at found.places.now i) == 0 then parts else with_path found i (path_at found.places.now i) parts

-- the things in their order
abbrev pub whole_plan : Found → List Planned
whole_plan found = fold (with_thing found) [] (range_with_len 0 (length found.places.now))

-- ---- what is known on the way

-- the rows are the paths of the folders that are made
abbrev pub KnowsFolders : Found → List Planned → List (Vec ℕ Global) → Type 0
KnowsFolders found parts rows = (row : Vec ℕ Global) → has_row rows row ≡ is_made found parts row.items

-- the row is one of them now where a folder is made there
abbrev pub NotesRow : BagKind → Vec ℕ Global → List (Vec ℕ Global) → List (Vec ℕ Global) → Type 0
NotesRow kind row old new = (other : Vec ℕ Global) → has_row new other ≡ (has_row old other || (makes_folder kind && bytes_eq row.items other.items))

-- each folder that a made one lies in is made
abbrev pub AreAllMade : Found → List Planned → Type 0
AreAllMade found parts =
    (path : List ℕ) (t : ℕ) → is_made found parts path ≡ true → t < length path → slice_index_or path t 0 ≡ 47 → is_made found parts (take t path) ≡ true

-- the folder that a part lies in directly is made; the payload is
abbrev pub is_above_made : Found → List Planned → Planned → Bool
is_above_made found parts part = if part.from == 0 then true else is_made found parts (take (part.from - 1) (path_at found.places.now part.place))
