-- What holds of paths.
use Rattle.std.specs.Prelude.{◌≡◌, ◌≢◌, ◌↔◌, ⊤, ℕ, true, false, ◌^◌, ◌<◌, ◌≤◌, List, [], ◌∷◌, ◌++◌, codes, flat_map, length, reverse, slice_index_or, take, Some, IsTrue}
use Rattle.std.specs.Option.{unwrap_or}
use Rattle.hfs_catalog.specs.Indexes.{is_place}
use Rattle.hfs_fields.specs.Order.{folded}
use Rattle.hfs_texts.specs.NameLaws.{is_bytes, IsSafe}
use Rattle.hfs_texts.specs.MacPaths.{host_path}
use Rattle.hfs_remains_places.specs.declared.things.Thing.{Thing}
use Rattle.hfs_remains_places.specs.Folders.{thing_at}
use Rattle.hfs_remains_places.specs.Things.{things_of}
use Rattle.hfs_remains_places.specs.Entries.{entry_row, has_entry_row}
use Rattle.hfs_remains_places.specs.Chains.{place_at, ups_of, ComesAgain, is_endless}
use Rattle.hfs_remains_places.specs.Names.{lies_apart, names_to, root_name}
use Rattle.hfs_remains_places.specs.Paths.{is_folder_at, path, payload_path, root_of}

-- names of at most 31 bytes, and numbers of 32 bits
pub record IsThing (thing : Thing) : Type 0 where
  pub bytes : IsTrue (is_bytes thing.name)
  pub short : length thing.name ≤ 31
  pub parent : thing.parent < 2 ^ 32
  pub number : unwrap_or thing.folder 0 < 2 ^ 32

pub record AreThings (things : List Thing) : Type 0 where
  pub each : (i : ℕ) → i < length things → IsThing (thing_at things i)
  pub few : length things < 2 ^ 64

-- the path of a folder has at most 800 bytes, that of any thing at most 916
pub record ArePathsShort (things : List Thing) : Type 0 where
  pub folders : (i : ℕ) → i < length things → is_folder_at things i ≡ true → length (path things i) ≤ 800
  pub all : (i : ℕ) → i < length things → length (path things i) ≤ 916

abbrev pub PathsAreShort : Type 0
PathsAreShort = (things : List Thing) → AreThings things → ArePathsShort things

-- ---- no two things at one place

-- things that have records of their own
abbrev pub AreItems : List Thing → Type 0
AreItems items = (i : ℕ) → i < length items → (thing_at items i).named ≡ false

-- two things with one path below the payload, in whatever case its ASCII letters are, are one thing
abbrev pub HaveOwnPlaces : List Thing → Type 0
HaveOwnPlaces things = (i j : ℕ) → i < length things → j < length things → folded (payload_path things i) ≡ folded (payload_path things j) → i ≡ j

-- a thing whose path precedes another's is a folder
abbrev pub LieInFolders : List Thing → Type 0
LieInFolders things =
    (i j : ℕ) (below : List ℕ) → i < length things → j < length things → folded (payload_path things i) ≡ folded (payload_path things j ++ (codes "/" ++ below)) → is_folder_at things j ≡ true

-- a path leads down: its parts are texts as file systems take them, none of which begins with a point
pub record LeadsDown (path : List ℕ) : Type 0 where
  pub above : List (List ℕ)
  pub last : List ℕ
  pub path_is : path ≡ flat_map (λ (part : List ℕ). part ++ codes "/") above ++ last
  pub above_are : (k : ℕ) → k < length above → IsSafe (slice_index_or above k [])
  pub last_is : IsSafe last

-- that of the root alone is empty
abbrev pub LeadDown : List Thing → Type 0
LeadDown things = (i : ℕ) → i < length things → payload_path things i ≢ [] → LeadsDown (payload_path things i)

-- where the AppleDouble file lies of what has this path
abbrev pub double_of : {path : List ℕ} → LeadsDown path → List ℕ
double_of down = flat_map (λ (part : List ℕ). part ++ codes "/") down.above ++ (codes "._" ++ down.last)

-- it is at no thing's path, and is no other thing's
pub record IsOwnDouble (i j : ℕ) (double other path : List ℕ) : Type 0 where
  pub apart : folded double ≢ folded path
  pub one : folded double ≡ folded other → i ≡ j

abbrev pub HaveOwnDoubles : List Thing → Type 0
HaveOwnDoubles things =
    (i j : ℕ) (a : LeadsDown (payload_path things i)) (b : LeadsDown (payload_path things j)) → i < length things → j < length things
    → IsOwnDouble i j (double_of a) (double_of b) (payload_path things j)

-- a text ends where a part of a path does: nothing is after it, or a slash
abbrev pub EndsThere : List ℕ → Type 0
EndsThere [] = ⊤
EndsThere (byte ∷ rest) = byte ≡ 47

-- the path of a thing, or of what it lies in
abbrev pub IsOver : List Thing → List ℕ → Type 0
IsOver things text = (i : ℕ) × (i < length things) × (below : List ℕ) × (payload_path things i ≡ text ++ below) × EndsThere below

-- what things lie in has one path, in whatever case its ASCII letters are
abbrev pub HaveOwnFolders : List Thing → Type 0
HaveOwnFolders things = (a b : List ℕ) → IsOver things a → IsOver things b → folded a ≡ folded b → a ≡ b

-- the law of places
pub record ArePlacedApart (things : List Thing) : Type 0 where
  pub own : HaveOwnPlaces things
  pub own_folders : HaveOwnFolders things
  pub in_folders : LieInFolders things
  pub down : LeadDown things
  pub doubles : HaveOwnDoubles things

abbrev pub PlacesDiffer : Type 0
PlacesDiffer = (items namings : List Thing) → AreItems items → AreThings (things_of items namings) → ArePlacedApart (things_of items namings)

-- ---- where nothing is lost

-- the thing has the first of these names, and the others lead on from its folder up to the payload
abbrev pub HasWay : List Thing → List (List ℕ) → ℕ → Type 0
HasWay things [] i = ⊥
HasWay things (n ∷ []) i = ((thing_at things i).name ≡ n) × ((thing_at things i).parent ≡ 2)
HasWay things (n ∷ m ∷ names) i = ((thing_at things i).name ≡ n) × (p : ℕ) × (place_at (ups_of things) i ≡ Some p) × HasWay things (m ∷ names) p

-- no thing is called as one before it in its folder
abbrev pub HaveOwnNames : List Thing → Type 0
HaveOwnNames things = (i : ℕ) → i < length things → has_entry_row (take i things) (entry_row (thing_at things i)) ≡ false

-- the host paths of folders take at most 800 bytes
abbrev pub AreWaysShort : List Thing → Type 0
AreWaysShort things = (i : ℕ) (names : List (List ℕ)) → i < length things → is_folder_at things i ≡ true → HasWay things names i → length (host_path (reverse names)) ≤ 800

-- a thing's path is the host path of the names that lead to it
abbrev pub PathsAreHostPaths : Type 0
PathsAreHostPaths =
    (things : List Thing) → AreThings things → HaveOwnNames things → AreWaysShort things
    → (i : ℕ) (names : List (List ℕ)) → i < length things → HasWay things names i → path things i ≡ host_path (reverse names)

-- a folder at this path, from which names lead up
pub record IsFolderOnWay (things : List Thing) (text : List ℕ) : Type 0 where
  pub place : ℕ
  pub below : place < length things
  pub folder : is_folder_at things place ≡ true
  pub path_is : path things place ≡ text
  pub names : List (List ℕ)
  pub way : HasWay things names place

-- what such a path lies in is a folder's
abbrev pub FoldersAreThings : Type 0
FoldersAreThings =
    (things : List Thing) → AreThings things → HaveOwnNames things → AreWaysShort things
    → (i : ℕ) (names : List (List ℕ)) → i < length things → HasWay things names i → (text rest : List ℕ) → path things i ≡ text ++ (codes "/" ++ rest) → IsFolderOnWay things text

-- ---- names

-- these names lead from a thing up to the payload, and with the root's before them they are those that lead to it
pub record IsNamed (things : List Thing) (volume : List ℕ) (i : ℕ) (names : List (List ℕ)) : Type 0 where
  pub way : HasWay things names i
  pub names_are : names_to things volume i ≡ root_name things volume ∷ reverse names

-- some names do
pub record HasNames (things : List Thing) (volume : List ℕ) (i : ℕ) : Type 0 where
  pub names : List (List ℕ)
  pub named : IsNamed things volume i names

-- they do where a thing but the root lies neither in what is old nor in what is lost; and where it does, there are none
pub record AreNamesRight (things : List Thing) (volume : List ℕ) (i : ℕ) : Type 0 where
  pub there : lies_apart (payload_path things i) ≡ false → HasNames things volume i
  pub apart : lies_apart (payload_path things i) ≡ true → names_to things volume i ≡ []

abbrev pub NamesLeadDown : Type 0
NamesLeadDown =
    (things : List Thing) (volume : List ℕ) → AreThings things → (i : ℕ) → i < length things → is_place (root_of things) i ≡ false → AreNamesRight things volume i

-- a thing lies at the host path of the names that lead to it
pub record LiesByNames (things : List Thing) (volume : List ℕ) (i : ℕ) (names : List (List ℕ)) : Type 0 where
  pub path_is : payload_path things i ≡ host_path (reverse names)
  pub names_are : names_to things volume i ≡ root_name things volume ∷ reverse names

-- where nothing is lost and no two things are called the same, the path below the payload and the names that lead there give the same way
abbrev pub PathsTellNames : Type 0
PathsTellNames =
    (things : List Thing) (volume : List ℕ) → AreThings things → HaveOwnNames things → AreWaysShort things
    → (i : ℕ) (names : List (List ℕ)) → i < length things → is_place (root_of things) i ≡ false → (thing_at things i).old ≡ false → HasWay things names i
    → LiesByNames things volume i names

-- ---- chains

-- a chain has no end exactly where it gets to one of its places again
abbrev pub EndlessChainsTurn : Type 0
EndlessChainsTurn = (things : List Thing) → AreThings things → (i : ℕ) → (is_endless (ups_of things) i ≡ true) ↔ ComesAgain (ups_of things) i
