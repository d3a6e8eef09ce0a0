-- What laying a list makes of a volume.
use Rattle.std.specs.Prelude.{◌≡◌, ℕ, ◌+◌, List, [], ◌∷◌, map, take, slice_get, Option, Some, None, Result, Ok, ⊤}
use Rattle.hfs_model.specs.declared.reply.Reply.{Reply}
use Rattle.hfs_model.specs.declared.reply.Value.{Value}
use Rattle.hfs_model.specs.declared.reply.Value.TheVariants as value
use Rattle.hfs_model.specs.Children.{entries_of}
use Rattle.hfs_model.specs.Reading.{get_cat_info}
use Rattle.hfs_model.specs.Volume.{Volume}
use Rattle.hfs_put_plan.specs.declared.items.PutItem.{PutItem}
use Rattle.hfs_put_plan.specs.Accepted.{next, all_accepted}
use Rattle.hfs_put_plan.specs.Calls.{somes, making}
use Rattle.hfs_put_plan.specs.Put.{Arrival, Open, Placed, Refused, filling, folder_id, id_named, laid_volume, left, placed}
use Rattle.hfs_put.specs.declared.faults.LayFault.{LayFault}
use Rattle.hfs_put.specs.declared.faults.LayFault.TheVariants as fault
use Rattle.hfs_put.specs.Faults.{IsLayFault}

-- an item without bytes
abbrev pub bare : PutItem → Arrival
bare item = record { item = item; data_fork = []; resource_fork = [] }

-- ---- one item

-- the ID that a value gives of one item
abbrev pub id_in : Value → Option ℕ
id_in (value.One info) = Some info.id
id_in value.Nothing = None
id_in (value.Id id) = None
id_in (value.Many infos) = None
id_in (value.Bytes bytes) = None
id_in (value.Full free depth) = None
id_in (value.Room free wanted) = None
id_in (value.ExtentNodes free depth) = None
id_in (value.Place dir name) = None

-- the volume with the item, a file with all but its bytes, and its ID
abbrev pub standing : ℕ → ℕ → PutItem → Volume → Result (Volume × ℕ) Reply
standing now dir item v =
    next (all_accepted v (somes (making dir item now))) (λ made.
    next (all_accepted made (filling item.kind dir (bare item) now)) (λ done. Ok (done, id_named made dir item.name)))

-- the ID that GetCatInfo gives of the folder's item of that name
abbrev pub id_told : Volume → ℕ → List ℕ → Option ℕ
id_told v dir name = id_in (get_cat_info (entries_of v) dir name).value

-- the calls that make the item were accepted, and yet nothing is said about its name: it was to be kept, and isn't there
abbrev pub LacksName : ℕ → ℕ → PutItem → Volume → Volume → Type 0
LacksName now dir item v w = (all_accepted v (somes (making dir item now)) ≡ Ok w) × (id_told w dir item.name ≡ None)

abbrev pub Stands : ℕ → ℕ → PutItem → Volume → Volume → ℕ → Type 0
Stands now dir item v w id = standing now dir item v ≡ Ok (w, id)

-- in the innermost open folder, or in the target
abbrev pub placed_in : ℕ → ℕ → ℕ → PutItem → Volume → List Open → Result Placed Refused
placed_in target now place item v folders = placed now place (folder_id target folders) (bare item) v folders

abbrev pub IsPlaced : ℕ → ℕ → ℕ → PutItem → Volume → List Open → Volume → List Open → ℕ → Type 0
IsPlaced target now place item v folders w opens id = placed_in target now place item v folders ≡ Ok (record { volume = w; id = id; folders = opens })

-- once the folders are left in which it doesn't lie
abbrev pub one_laid : ℕ → ℕ → ℕ → PutItem → Volume → List Open → Result Placed Refused
one_laid target now place item v folders = next (left item.parent v folders) (λ (s : Volume × List Open). placed_in target now place item s.0 s.1)

abbrev pub IsOneLaid : ℕ → ℕ → ℕ → PutItem → Volume → List Open → Volume → List Open → ℕ → Type 0
IsOneLaid target now place item v folders w opens id = one_laid target now place item v folders ≡ Ok (record { volume = w; id = id; folders = opens })

-- where they are left, it is made in the innermost one that is open then, and nothing is said about its name
pub record LacksOne (target now : ℕ) (item : PutItem) (v : Volume) (folders : List Open) (w : Volume) : Type 0 where
  pub behind : Volume × List Open
  pub left_is : left item.parent v folders ≡ Ok behind
  pub lacks : LacksName now (folder_id target behind.1) item behind.0 w

-- ---- the list

-- the volume after the first items of the list, and the folders that are open then
abbrev pub front_laid : ℕ → ℕ → ℕ → Volume → List Open → List PutItem → Result (Volume × List Open) Refused
front_laid target now place v folders [] = Ok (v, folders)
front_laid target now place v folders (item ∷ items) =
    next (one_laid target now place item v folders) (λ (p : Placed). front_laid target now (place + 1) p.volume p.folders items)

-- the items before this place are laid, and the one at it is lacking
pub record LacksItem (target now : ℕ) (items : List PutItem) (v w : Volume) (place : ℕ) : Type 0 where
  pub front : Volume × List Open
  pub laid : front_laid target now 0 v [] (take place items) ≡ Ok front
  pub item : PutItem
  pub there : slice_get items place ≡ Some item
  pub lacks : LacksOne target now item front.0 front.1 w

-- an item is reported as absent only where it is lacking
abbrev pub IsAbsence : ℕ → ℕ → List PutItem → Volume → Volume → LayFault → Type 0
IsAbsence target now items v w fault.NoMemory = ⊤
IsAbsence target now items v w (fault.Absent place) = LacksItem target now items v w place
IsAbsence target now items v w (fault.Refused place reply) = ⊤

abbrev pub item_of : Arrival → PutItem
item_of a = a.item

-- whatever bytes are given for the items, all calls but those that write forks are accepted, and make this volume, with these IDs
abbrev pub AreLaid : ℕ → ℕ → List PutItem → Volume → Volume → List ℕ → Type 0
AreLaid target now items v w ids =
    (arrivals : List Arrival) → map item_of arrivals ≡ items → laid_volume v target now arrivals ≡ Ok (record { volume = w; ids = ids })

-- or this is their fault, with the image that the calls before it leave
pub record IsFaultOfLaying (target now : ℕ) (items : List PutItem) (v : Volume) (image : List ℕ) (fault : LayFault) : Type 0 where
  pub whatever_bytes : (arrivals : List Arrival) → map item_of arrivals ≡ items → IsLayFault (laid_volume v target now arrivals) image fault
