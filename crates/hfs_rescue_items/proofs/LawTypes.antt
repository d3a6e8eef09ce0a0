-- What holds of the plan of what was found.
use Rattle.std.specs.Prelude.{◌≡◌, ℕ, ◌<◌, Bool, true, List, map, length, Some}
use Rattle.hfs_bag.specs.declared.item.BagKind.{BagKind}
use Rattle.hfs_bag.specs.Laws.{ArePlaced}
use Rattle.hfs_remains_places.specs.Things.{things_of}
use Rattle.hfs_remains_places.specs.Laws.{AreThings}
use Rattle.hfs_remains_forks.specs.Records.{namings_of, thing_of}
use Rattle.hfs_remains.specs.declared.catalog.FoundRecord.{FoundRecord}
use Rattle.hfs_fields.specs.Members.{In}
use Rattle.hfs_rescue_items.specs.declared.found.Found.{Found}
use Rattle.hfs_rescue_items.specs.declared.plan.Planned.{Planned}
use Rattle.hfs_rescue_items.specs.Found.{path_at}
use Rattle.hfs_rescue_items.specs.Plan.{last_part, makes_folder, of_kind, own_kind, path_of, whole_plan}
use Rattle.hfs_rescue_items.specs.Sources.{planned_item}

-- what a plan makes has plain names and paths of its own, also without regard to the case of ASCII letters
abbrev pub PlansArePlaced : Type 0
PlansArePlaced =
    (image : List ℕ) (found : Found) (records : List FoundRecord) → found.places.now ≡ things_of (map thing_of found.items.now) (namings_of records) → AreThings found.places.now
    → ArePlaced (map (planned_item image found) (whole_plan found))

-- one of the parts makes the folder at this path
pub record MakesFolder (found : Found) (parts : List Planned) (path : List ℕ) : Type 0 where
  pub part : Planned
  pub there : In part parts
  pub folder : makes_folder part.kind ≡ true
  pub path_is : path_of found part ≡ path

-- among the parts is what is made of a thing at its own path, where a folder was made there before or not
pub record IsMadeOf (found : Found) (parts : List Planned) (i : ℕ) : Type 0 where
  pub made : Bool
  pub own : (kind : BagKind) → own_kind found i made ≡ Some kind → In (of_kind kind (last_part i (path_at found.places.now i))) parts
  pub there : made ≡ true → MakesFolder found parts (path_at found.places.now i)

-- all things are made but the root, whose path is empty
abbrev pub PlansHoldThings : Type 0
PlansHoldThings = (found : Found) (i : ℕ) → i < length found.places.now → 0 < length (path_at found.places.now i) → IsMadeOf found (whole_plan found) i
