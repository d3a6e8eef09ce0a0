-- What holds of the plan of what was found: in which order it makes folders, that it makes nothing else, and how much it makes.
use Rattle.std.specs.Prelude.{◌≡◌, ℕ, ◌+◌, ◌<◌, ◌≤◌, Bool, true, if◌then◌else◌, List, [], ◌∷◌, ◌++◌, drop, length, map, slice_get, slice_index_or, take, Option, None, Some, ⊤}
use Rattle.std.specs.List.{sum_by}
use Rattle.hfs_bag.specs.declared.item.BagKind.TheVariants as bag
use Rattle.hfs_bag.specs.Bags.{bytes_in, doubles_told, payload}
use Rattle.hfs_bag.specs.Items.{BagItem, item_digests}
use Rattle.hfs_fields.specs.Records.{is_dir}
use Rattle.hfs_remains_places.specs.Laws.{AreThings, EndsThere}
use Rattle.hfs_remains_places.specs.Things.{things_of}
use Rattle.hfs_remains_forks.specs.Records.{namings_of, thing_of}
use Rattle.hfs_remains_forks.specs.Verdicts.{shares_at}
use Rattle.hfs_remains.specs.declared.catalog.FoundRecord.{FoundRecord}
use Rattle.hfs_fields.specs.Each.{Each}
use Rattle.hfs_rescue_items.specs.declared.found.Found.{Found}
use Rattle.hfs_rescue_items.specs.declared.plan.Planned.{Planned}
use Rattle.hfs_rescue_items.specs.Found.{path_at}
use Rattle.hfs_rescue_items.specs.Plan.{is_made, own_kind, path_of, whole_plan}
use Rattle.hfs_rescue_items.specs.Sources.{is_alone, planned_item}
use Rattle.hfs_rescue_items.specs.Sums.{bytes_at, files_at, folders_at, of_all}

-- ---- in which order

-- some of these parts makes each folder that a part lies in: what ends before a slash of its path
abbrev pub LiesInMade : Found → List Planned → Planned → Type 0
LiesInMade found before part =
    (t : ℕ) → t < length (path_of found part) → slice_index_or (path_of found part) t 0 ≡ 47 → is_made found before (take t (path_of found part)) ≡ true

-- and so it is of each of the parts that come behind these
abbrev pub AreMadeBefore : Found → List Planned → List Planned → Type 0
AreMadeBefore found before [] = ⊤
AreMadeBefore found before (part ∷ rest) = LiesInMade found before part × AreMadeBefore found (before ++ part ∷ []) rest

-- a folder is made before what lies in it
abbrev pub FoldersComeFirst : Type 0
FoldersComeFirst = (found : Found) → AreMadeBefore found [] (whole_plan found)

-- ---- nothing else

-- a part is a thing at its own path, as what is made of it, or else a folder alone that the thing lies in
pub record IsOfThing (found : Found) (part : Planned) : Type 0 where
  pub there : part.place < length found.places.now
  pub some : 0 < length (path_at found.places.now part.place)
  pub ends : EndsThere (drop part.to (path_at found.places.now part.place))
  pub above : part.to < length (path_at found.places.now part.place) → part.kind ≡ bag.FolderAlone
  pub own : length (path_at found.places.now part.place) ≤ part.to → (made : Bool) × (own_kind found part.place made ≡ Some part.kind)

-- nothing else is made than the things and the folders that these lie in
abbrev pub OnlyThingsAreMade : Type 0
OnlyThingsAreMade = (found : Found) → Each (IsOfThing found) (whole_plan found)

-- ---- how much

-- the items among records and the folders that these name, each at its place; and a folder has no forks
pub record IsOfRecords (found : Found) (records : List FoundRecord) : Type 0 where
  pub places_are : found.places.now ≡ things_of (map thing_of found.items.now) (namings_of records)
  pub things : AreThings found.places.now
  pub folders : (i : ℕ) (item : FoundRecord) → slice_get found.items.now i ≡ Some item → is_dir item.entry.1 ≡ true → shares_at found.salvage.now i ≡ None

-- what the item counts that a part is of; a folder alone counts nothing
abbrev pub part_number : (ℕ → ℕ) → Planned → ℕ
part_number number part = if is_alone part.kind then 0 else number part.place

abbrev pub of_plan : Found → (ℕ → ℕ) → ℕ
of_plan found number = sum_by (part_number number) (whole_plan found)

-- what is counted of the plan is what is counted of the items: each but the root comes once
abbrev pub PlansCountItems : Type 0
PlansCountItems = (found : Found) (records : List FoundRecord) → IsOfRecords found records → (number : ℕ → ℕ) → of_plan found number ≡ of_all found number

-- the payload of what is planned has as many bytes as are counted, and an AppleDouble file for each file and each folder
pub record HasCountedPayload (found : Found) (items : List BagItem) : Type 0 where
  pub bytes_are : bytes_in (payload items) ≡ of_all found (bytes_at found)
  pub doubles_are : doubles_told (map item_digests items) ≡ of_all found (files_at found) + of_all found (folders_at found)

abbrev pub PayloadsHaveTheirSums : Type 0
PayloadsHaveTheirSums =
    (image : List ℕ) (found : Found) (records : List FoundRecord) → IsOfRecords found records
    → HasCountedPayload found (map (planned_item image found) (whole_plan found))
