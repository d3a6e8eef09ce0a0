-- What is looked up by IDs where a whole catalog is checked.
use Rattle.std.specs.Prelude.{◌≡◌, ℕ, ◌+◌, Bool, true, false, nat_le, ◌==◌, ◌||◌, List, nat_eq, if◌then◌else◌, Option, Some, None}
use Rattle.std.specs.List.{position_from, list_any}
use Rattle.std.specs.Map.{lookup}
use Rattle.std.specs.Option.{option_map_or, unwrap_or, option_or}
use Rattle.hfs_catalog.specs.Parents.{ReachesRoot}
use Rattle.hfs_catalog.specs.Records.{Catalog, has_id, is_child_of, is_thread_of, Record}
use Rattle.hfs_catalog.specs.declared.valence_check.Siblings.{Siblings}

-- numbers, each with an ID
abbrev pub Numbered : Type 0
Numbered = List (ℕ × ℕ)

-- the number of an ID
abbrev pub number_of : Numbered → ℕ → Option ℕ
number_of numbers id = lookup (nat_eq id) numbers

-- the number of an ID, 0 where it has none
abbrev pub count_of : Numbered → ℕ → ℕ
count_of numbers id = unwrap_or (number_of numbers id) 0

-- the number of an ID, with so many more for this one
abbrev pub count_with : Numbered → ℕ → ℕ → ℕ → ℕ
count_with numbers one more id = count_of numbers id + (if nat_eq one id then more else 0)

-- the numbers that there are, with this one for the ID
abbrev pub with_number : (ℕ → Option ℕ) → ℕ → ℕ → ℕ → Option ℕ
with_number numbers id n k = if nat_eq id k then Some n else numbers k

-- the number, where the test holds
abbrev pub only_if : Bool → ℕ → Option ℕ
only_if holds n = if holds then Some n else None

-- the place of the first record of a file or folder with this ID, from 0 on
abbrev pub item_place : Catalog → ℕ → Option ℕ
item_place catalog id = position_from (has_id id) 0 catalog

-- whether the place that is known is this one
abbrev pub is_place : Option ℕ → ℕ → Bool
is_place place i = option_map_or (λ j. j == i) place false

-- whether the number is one of these
abbrev pub has_number : List ℕ → ℕ → Bool
has_number numbers id = list_any (nat_eq id) numbers

-- the chain of parents from each of these IDs on reaches the root
abbrev pub AreRooted : List ℕ → Catalog → Type 0
AreRooted ids catalog = (id : ℕ) → has_number ids id ≡ true → ReachesRoot catalog id

-- the earlier of two places
abbrev pub earlier : Option ℕ → Option ℕ → Option ℕ
earlier None b = b
earlier (Some i) None = Some i
earlier (Some i) (Some j) = if nat_le i j then Some i else Some j

-- each ID has its number, and the record's ID this one where it had none
abbrev pub NotesItem : Numbered → Numbered → ℕ → Record → Type 0
NotesItem old new i r = (id : ℕ) → number_of new id ≡ option_or (number_of old id) (only_if (has_id id r) i)

-- the number of this ID is this one now, and the others are the same
abbrev pub SetsNumber : ℕ → ℕ → Numbered → Numbered → Type 0
SetsNumber id n old new = number_of new ≡ with_number (number_of old) id n

-- each ID has its number, and this one the number where it had none
abbrev pub NotesFirst : Numbered → Numbered → ℕ → ℕ → Type 0
NotesFirst old new id n = (k : ℕ) → number_of new k ≡ option_or (number_of old k) (only_if (nat_eq id k) n)

-- this number is one of them now, besides the old ones
abbrev pub AddsNumber : ℕ → List ℕ → List ℕ → Type 0
AddsNumber n old new = (k : ℕ) → has_number new k ≡ (has_number old k || nat_eq n k)

-- the ID of the record's key is one of them now, if it is a thread's, besides the old ones
abbrev pub AddsThread : Record → List ℕ → List ℕ → Type 0
AddsThread r old new = (id : ℕ) → has_number new id ≡ (has_number old id || is_thread_of id r)

-- the number of this ID is so many more, and the others are the same
abbrev pub AddsCount : ℕ → ℕ → Numbered → Numbered → Type 0
AddsCount id more old new = (k : ℕ) → count_of new k ≡ count_of old k + (if nat_eq id k then more else 0)

-- with the siblings that are not counted yet, the record's parent has one more child where the record is an item's
abbrev pub CountsChild : Record → Numbered → Siblings → Numbered → Siblings → Type 0
CountsChild r old siblings new = λ met. (id : ℕ) → count_with new met.parent met.count id ≡ count_with old siblings.parent siblings.count id + (if is_child_of id r then 1 else 0)
