-- What the sequential File Manager makes of a volume by the calls that put a list of items on it.
use Rattle.std.specs.Prelude.{ℕ, ◌+◌, ◌==◌, Bool, false, if◌then◌else◌, List, [], ◌∷◌, ◌++◌, map, Option, Some, None, Result, Ok, Err}
use Rattle.std.specs.List.{cons_option}
use Rattle.std.specs.Option.{option_map_or}
use Rattle.hfs_model.specs.declared.call.Call.{Call}
use Rattle.hfs_model.specs.declared.call.Fork.TheVariants.{DataFork, ResFork}
use Rattle.hfs_model.specs.declared.reply.ItemKind.{ItemKind}
use Rattle.hfs_model.specs.declared.reply.ItemKind.TheVariants.{Folder, File}
use Rattle.hfs_model.specs.declared.reply.Reply.{Reply}
use Rattle.hfs_model.specs.Children.{child_named, entries_of}
use Rattle.hfs_model.specs.Volume.{Entry, Volume}
use Rattle.hfs_put_plan.specs.declared.items.PutItem.{PutItem}
use Rattle.hfs_put_plan.specs.Accepted.{next, all_accepted}
use Rattle.hfs_put_plan.specs.Calls.{somes, making, write_calls, ending, ending_of}
use Rattle.hfs_put_plan.specs.WithForks.{FileForks}

-- an item, and the bytes of its forks
pub record Arrival : Type 0 where
  pub item : PutItem
  pub data_fork : List ℕ
  pub resource_fork : List ℕ

-- a folder of the list that is open: what is put may lie in it
pub record Open : Type 0 where
  -- its place in the list
  pub place : ℕ
  pub id : ℕ
  -- the calls that follow all that lies in it
  pub ending : List Call

-- the first call that was refused: the place of its item in the list, and the reply
pub record Refused : Type 0 where
  pub place : ℕ
  pub reply : Reply

-- the volume after all calls, and the IDs of the items in the order of the list
pub record Put : Type 0 where
  pub volume : Volume
  pub ids : List ℕ

abbrev pub at_place : {A : Type 0} → ℕ → Result A Reply → Result A Refused
at_place place (Ok x) = Ok x
at_place place (Err reply) = Err (record { place = place; reply = reply })

-- ---- folders

abbrev pub is_at : Option ℕ → ℕ → Bool
is_at None place = false
is_at (Some parent) place = parent == place

-- the open folders are left, the innermost first, up to the one in which the next item lies
abbrev pub left : Option ℕ → Volume → List Open → Result (Volume × List Open) Refused
left parent v [] = Ok (v, [])
left parent v (o ∷ os) =
    if is_at parent o.place then Ok (v, o ∷ os)
    else next (at_place o.place (all_accepted v o.ending)) (λ w. left parent w os)

-- the innermost open folder, or the target
abbrev pub folder_id : ℕ → List Open → ℕ
folder_id target [] = target
folder_id target (o ∷ os) = o.id

-- the ID of the item of that name; a new one has the ID that the call answered which made it
abbrev pub id_named : Volume → ℕ → List ℕ → ℕ
id_named v dir name = option_map_or (λ (e : Entry). e.0) (child_named (entries_of v) dir name) 0

-- ---- items

-- both forks of a file are written
abbrev pub writing : ℕ → Arrival → ℕ → List Call
writing dir a now = write_calls dir a.item.name DataFork a.data_fork now ++ write_calls dir a.item.name ResFork a.resource_fork now

-- a file's making is followed by its bytes and its ending
abbrev pub filling : ItemKind → ℕ → Arrival → ℕ → List Call
filling Folder dir a now = []
filling File dir a now = writing dir a now ++ somes (ending_of File dir a.item now)

-- a folder is open then
abbrev pub opened : ItemKind → Open → List Open → List Open
opened Folder o os = o ∷ os
opened File o os = os

-- the volume with the item, and the folders that are open then
pub record Placed : Type 0 where
  pub volume : Volume
  pub id : ℕ
  pub folders : List Open

abbrev pub placed : ℕ → ℕ → ℕ → Arrival → Volume → List Open → Result Placed Refused
placed now place dir a v folders =
    at_place place
    (next (all_accepted v (somes (making dir a.item now))) (λ made.
    next (all_accepted made (filling a.item.kind dir a now)) (λ done.
    let id = id_named made dir a.item.name in
    Ok (record {
      volume = done;
      id = id;
      folders = opened a.item.kind (record {
        place = place;
        id = id;
        ending = somes
            (ending dir a.item now);
      }) folders;
    }))))

-- each item lies in one of the folders that are open at its turn, or in the target
abbrev pub put_from : ℕ → ℕ → ℕ → Volume → List Open → List Arrival → Result Put Refused
put_from target now place v folders [] = next (left None v folders) (λ (s : Volume × List Open). Ok (record { volume = s.0; ids = [] }))
put_from target now place v folders (a ∷ more) =
    next (left a.item.parent v folders) (λ (s : Volume × List Open).
    next (placed now place (folder_id target s.1) a s.0 s.1) (λ (p : Placed).
    next (put_from target now (place + 1) p.volume p.folders more) (λ (rest : Put). Ok (record { volume = rest.volume; ids = p.id ∷ rest.ids }))))

-- ---- the list

-- the items put into the folder `target`, at the moment `now`
abbrev pub put_volume : Volume → ℕ → ℕ → List Arrival → Result Put Refused
put_volume v target now arrivals = put_from target now 0 v [] arrivals

-- without bytes no call writes a fork
abbrev pub without_bytes : Arrival → Arrival
without_bytes a = record { item = a.item; data_fork = []; resource_fork = [] }

-- by all calls but those that write forks
abbrev pub laid_volume : Volume → ℕ → ℕ → List Arrival → Result Put Refused
laid_volume v target now arrivals = put_volume v target now (map without_bytes arrivals)

-- ---- the bytes that are put

abbrev pub file_forks : ItemKind → Arrival → ℕ → Option FileForks
file_forks Folder a id = None
file_forks File a id = Some (record { id = id; data_fork = a.data_fork; resource_fork = a.resource_fork })

-- the forks of the files of the list by the IDs of its items, before those of others
abbrev pub came : List Arrival → List ℕ → List FileForks → List FileForks
came [] ids forks = forks
came (a ∷ more) [] forks = forks
came (a ∷ more) (id ∷ ids) forks = came more ids (cons_option (file_forks a.item.kind a id) forks)
