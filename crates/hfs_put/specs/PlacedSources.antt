-- What becomes of a list of items that is to be put into a folder of a volume.
use Rattle.std.specs.Prelude.{◌≡◌, ◌≢◌, ℕ, ◌+◌, ℤ, Bool, if◌then◌else◌, List, [], ◌∷◌, ◌++◌, map, get_or, Option, Some, None}
use Rattle.std.specs.List.{cons_option}
use Rattle.hfs_fields.specs.declared.mdb.Mdb.{Mdb}
use Rattle.hfs_fields.specs.Records.{is_bit_set}
use Rattle.hfs_model.specs.declared.codes.TheConstants.{HARDWARE_LOCKED, SOFTWARE_LOCKED}
use Rattle.hfs_model.specs.Choices as choices
use Rattle.hfs_model.specs.Volume.{Volume}
use Rattle.hfs_put_plan.specs.declared.items.PutItem.{PutItem}
use Rattle.hfs_put_sources.specs.Items.{PlannedItem}
use Rattle.hfs_put.specs.Decisions.{decision, inside}
use Rattle.hfs_put.specs.declared.decisions.Decision.{Decision}
use Rattle.hfs_put.specs.declared.decisions.Decision.TheVariants as decided
use Rattle.hfs_put.specs.declared.decisions.Destination.{Destination}
use Rattle.hfs_put.specs.declared.decisions.Destination.TheVariants as into
use Rattle.hfs_put.specs.declared.placing.PlacedSources.{PlacedSources}
use Rattle.hfs_put.specs.declared.placing.PlacedSources.TheVariants as placed
use Rattle.hfs_put.specs.declared.placing.RefusedItem.{RefusedItem}

-- the code that refuses each call that changes a locked volume
abbrev pub lock_code : Volume → Option ℤ
lock_code v = if choices.is_locked v then Some (choices.lock_code v) else None

-- by its master directory block
abbrev pub directory_lock_code : Mdb → Option ℤ
directory_lock_code mdb = if is_bit_set 7 mdb.attributes.0 then Some HARDWARE_LOCKED else if is_bit_set 15 mdb.attributes.0 then Some SOFTWARE_LOCKED else None

-- the folder into which an item is put: the target, or where what lies in its parent is put
abbrev pub destination : ℕ → List Destination → Option ℕ → Destination
destination target insides None = into.OnDisk target
destination target insides (Some parent) = get_or insides parent into.Made

-- of each item after others of the list, of which it is known where what lies in them is put
unfoldable pub decisions_behind : Volume → ℕ → Bool → List Destination → List PlannedItem → List Decision
decisions_behind v target replace insides [] = []
decisions_behind v target replace insides (item ∷ more) =
    let made = decision v replace (destination target insides item.parent) item in
    made ∷ decisions_behind v target replace (insides ++ inside made ∷ []) more

-- of each item of the list
abbrev pub decisions : Volume → ℕ → Bool → List PlannedItem → List Decision
decisions v target replace items = decisions_behind v target replace [] items

-- ---- those that are put, and those that can't be

abbrev pub item_put : Decision → Option PutItem
item_put (decided.Put item folder) = Some item
item_put (decided.Refused why) = None
item_put decided.Untold = None

abbrev pub refused_at : ℕ → Decision → Option RefusedItem
refused_at place (decided.Put item folder) = None
refused_at place (decided.Refused why) = Some (record { place = place; why = why })
refused_at place decided.Untold = None

-- those that can't be put among items of which the first has this place
unfoldable pub refused_from : ℕ → List Decision → List RefusedItem
refused_from place [] = []
refused_from place (d ∷ ds) = cons_option (refused_at place d) (refused_from (place + 1) ds)

-- each is put, or those are reported that can't be, of which there are some then
abbrev pub ArePlaced : List Decision → PlacedSources → Type 0
ArePlaced ds (placed.All items) = map item_put ds ≡ map Some items.items
ArePlaced ds (placed.Refused refused) = (refused.items ≡ refused_from 0 ds) × (refused.items ≢ [])
