-- What holds of these calls. Each statement is what a function of src/laws.rt ensures.
use Rattle.std.specs.Prelude.{◌≡◌, ℕ, ◌≤◌, ⊤, List, [], ◌∷◌, length, map, replicate, Some, IfSome, Result, Ok, Err}
use Rattle.hfs_fields.specs.Each.{Each}
use Rattle.hfs_model.specs.declared.call.Call.TheVariants as call
use Rattle.hfs_model.specs.declared.reply.Value.TheVariants as value
use Rattle.hfs_model.specs.Replies.{success}
use Rattle.hfs_model.specs.Step.{step}
use Rattle.hfs_model.specs.Volume.{Volume}
use Rattle.hfs_put_plan.specs.declared.calls.TheConstants.{MAKING_CALLS, ENDING_CALLS}
use Rattle.hfs_put_plan.specs.declared.items.PutItem.{PutItem}
use Rattle.hfs_put_plan.specs.Calls.{making, ending}
use Rattle.hfs_put_plan.specs.Put.{Arrival, Put, Refused, id_named, put_volume, laid_volume, file_forks, came}
use Rattle.hfs_put_plan.specs.WithForks.{FileForks, forks_of, with_forks}

-- no item has more calls than these numbers say
pub record AreFew : Type 0 where
  pub makings : (dir : ℕ) (item : PutItem) (now : ℕ) → length (making dir item now) ≤ MAKING_CALLS
  pub endings : (dir : ℕ) (item : PutItem) (now : ℕ) → length (ending dir item now) ≤ ENDING_CALLS

-- the ID that a call answers which makes an item is that of the item of its name
pub record AreNewItemsNamed : Type 0 where
  pub files : (v : Volume) (dir : ℕ) (name : List ℕ) (now id : ℕ) → (step v (call.Create dir name now)).1 ≡ success (value.Id id)
      → id_named (step v (call.Create dir name now)).0 dir name ≡ id
  pub folders : (v : Volume) (dir : ℕ) (name : List ℕ) (now id : ℕ) → (step v (call.DirCreate dir name now)).1 ≡ success (value.Id id)
      → id_named (step v (call.DirCreate dir name now)).0 dir name ≡ id

-- the forks have as many bytes as the plan says
abbrev pub IsWhole : Arrival → Type 0
IsWhole a = (length a.data_fork ≡ a.item.data_len) × (length a.resource_fork ≡ a.item.resource_len)

-- with the bytes of the new forks in the volume
abbrev pub with_bytes : List Arrival → Result Put Refused → Result Put Refused
with_bytes arrivals (Ok put) = Ok (record put { volume = with_forks (came arrivals put.ids []) put.volume })
with_bytes arrivals (Err refused) = Err refused

-- all calls make of a volume what those make that write no fork, with the bytes of the new forks; and the same call is refused, if one is
abbrev pub PutIsLaid : Type 0
PutIsLaid = (v : Volume) (target now : ℕ) (arrivals : List Arrival) → Each IsWhole arrivals
    → put_volume v target now arrivals ≡ with_bytes arrivals (laid_volume v target now arrivals)

-- zeros in place of its bytes
abbrev pub with_zeros : Arrival → Arrival
with_zeros a = record { item = a.item; data_fork = replicate (length a.data_fork) 0; resource_fork = replicate (length a.resource_fork) 0 }

-- without the calls that write forks, the new files have zeros in their forks, as many as they will have bytes
abbrev pub LaidForksAreZeros : Type 0
LaidForksAreZeros = (v : Volume) (target now : ℕ) (arrivals : List Arrival) (put : Put) → Each IsWhole arrivals → laid_volume v target now arrivals ≡ Ok put
    → with_forks (came (map with_zeros arrivals) put.ids []) put.volume ≡ put.volume

-- each file of these has its own bytes among those, under its ID
abbrev pub AreTheirs : List FileForks → List Arrival → List ℕ → Type 0
AreTheirs forks [] ids = ⊤
AreTheirs forks (a ∷ more) [] = ⊤
AreTheirs forks (a ∷ more) (id ∷ ids) = IfSome (file_forks a.item.kind a id) (λ (own : FileForks). forks_of forks id ≡ Some own) × AreTheirs forks more ids

-- among the bytes that were added each file of the list has its own, since no two files have one ID
abbrev pub ForksAreTheirs : Type 0
ForksAreTheirs = (v : Volume) (target now : ℕ) (arrivals : List Arrival) (put : Put) → laid_volume v target now arrivals ≡ Ok put
    → AreTheirs (came arrivals put.ids []) arrivals put.ids
