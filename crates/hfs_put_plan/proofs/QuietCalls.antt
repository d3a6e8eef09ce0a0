-- Calls that do the same whatever bytes the forks have.
use Rattle.std.proofs.Common.{◌≡◌, ℕ, Bool, true, false, cond, List, [], ◌∷◌, Some, None}
use Rattle.std.specs.List.{cons_option}
use Rattle.hfs_fields.specs.Each.{Each}
use Rattle.hfs_model.specs.declared.call.Call.{Call}
use Rattle.hfs_model.specs.declared.call.Call.TheVariants as call
use Rattle.hfs_model.specs.Changes.{new_folder}
use Rattle.hfs_model.specs.Volume.{Volume}
use Rattle.hfs_put_plan.specs.declared.over.Placing.{Placing}
use Rattle.hfs_put_plan.specs.declared.over.Placing.TheVariants.{New, Kept, Replaced, Taken}
use Rattle.hfs_put_plan.specs.declared.items.PutItem.{PutItem}
use Rattle.hfs_put_plan.specs.Accepted.{all_accepted}
use Rattle.hfs_put_plan.specs.Calls.{somes, unlock_call, delete_call, folder_call, facts_call, folder_ending, file_ending}
use Rattle.hfs_put_plan.specs.WithForks.{FileForks, forks_of, with_forks}
use Rattle.hfs_put_plan.proofs.AcceptedCalls.{over, AlwaysOver, all-over}
use Rattle.hfs_put_plan.proofs.ForkMaps.{by_forks, tells-forks, folder-plain}
use Rattle.hfs_model.proofs.MappedCalls.{create-mapped, delete-mapped, set_cat_info-mapped, set_lock-mapped}

abbrev pub IsQuiet : Call → Type 0
IsQuiet c = (forks : List FileForks) → AlwaysOver (by_forks forks) c

quiet-making : (dir : ℕ) (name : List ℕ) (now : ℕ) → IsQuiet (call.DirCreate dir name now)
quiet-making dir name now = λ forks v. create-mapped (by_forks forks) (tells-forks forks) v now new_folder (folder-plain
    (forks_of forks v.next_id)) dir name

quiet-deleting : (dir : ℕ) (name : List ℕ) (now : ℕ) → IsQuiet (call.Delete dir name now)
quiet-deleting dir name now = λ forks v. delete-mapped (by_forks forks) (tells-forks forks) v now dir name

quiet-unlocking : (dir : ℕ) (name : List ℕ) (now : ℕ) → IsQuiet (call.RstFLock dir name now)
quiet-unlocking dir name now = λ forks v. set_lock-mapped (by_forks forks) (tells-forks forks) v now false dir name

quiet-locking : (dir : ℕ) (name : List ℕ) (now : ℕ) → IsQuiet (call.SetFLock dir name now)
quiet-locking dir name now = λ forks v. set_lock-mapped (by_forks forks) (tells-forks forks) v now true dir name

quiet-facts : (dir : ℕ) (item : PutItem) (now : ℕ) → IsQuiet (facts_call dir item now)
quiet-facts dir item now = λ forks v.
    let facts = item.facts in
    set_cat_info-mapped (by_forks forks) (tells-forks forks) v now dir item.name facts.dates.created facts.dates.modified facts.dates.backup
    facts.finder

-- ---- of an item

locked-if : (b : Bool) (c : Call) → IsQuiet c → Each IsQuiet (cons_option (cond b (Some c) None) [])
locked-if true c quiet = (quiet, tt)
locked-if false c quiet = tt

pub quiet-unlock : (dir : ℕ) (name : List ℕ) (placing : Placing) (now : ℕ) → Each IsQuiet (cons_option (unlock_call dir name placing now) [])
quiet-unlock dir name New now = tt
quiet-unlock dir name Kept now = tt
quiet-unlock dir name Taken now = tt
quiet-unlock dir name (Replaced locked) now = locked-if locked (call.RstFLock dir name now) (quiet-unlocking dir name now)

pub quiet-delete : (dir : ℕ) (name : List ℕ) (placing : Placing) (now : ℕ) → Each IsQuiet (cons_option (delete_call dir name placing now) [])
quiet-delete dir name New now = tt
quiet-delete dir name Kept now = tt
quiet-delete dir name Taken now = tt
quiet-delete dir name (Replaced locked) now = (quiet-deleting dir name now, tt)

pub quiet-folder : (dir : ℕ) (name : List ℕ) (placing : Placing) (now : ℕ) → Each IsQuiet (somes (folder_call dir name placing now ∷ []))
quiet-folder dir name New now = (quiet-making dir name now, tt)
quiet-folder dir name Kept now = tt
quiet-folder dir name Taken now = (quiet-making dir name now, tt)
quiet-folder dir name (Replaced locked) now = (quiet-making dir name now, tt)

pub quiet-folder_ending : (dir : ℕ) (item : PutItem) (placing : Placing) (now : ℕ) → Each IsQuiet (somes (folder_ending dir item placing now))
quiet-folder_ending dir item New now = (quiet-facts dir item now, tt)
quiet-folder_ending dir item Kept now = tt
quiet-folder_ending dir item Taken now = (quiet-facts dir item now, tt)
quiet-folder_ending dir item (Replaced locked) now = (quiet-facts dir item now, tt)

pub quiet-file_ending : (dir : ℕ) (item : PutItem) (now : ℕ) → Each IsQuiet (somes (file_ending dir item now))
quiet-file_ending dir item now = (
  quiet-facts dir item now,
  locked-if item.facts.locked (call.SetFLock dir item.name now)
      (quiet-locking dir item.name now),
)

-- ---- of a list

each-over : (forks : List FileForks) (cs : List Call) → Each IsQuiet cs → Each (AlwaysOver (by_forks forks)) cs
each-over forks [] each = tt
each-over forks (c ∷ cs) each = (each.0 forks, each-over forks cs each.1)

pub quiet-over : (forks : List FileForks) (cs : List Call) → Each IsQuiet cs → (v : Volume)
    → all_accepted (with_forks forks v) cs ≡ over (by_forks forks) (all_accepted v cs)
quiet-over forks cs each v = all-over (by_forks forks) cs (each-over forks cs each) v
