-- The calls that put one item into a folder, `dir`, at the moment `now`.
use Rattle.std.specs.Prelude.{ℕ, ◌==◌, if◌then◌else◌, List, [], ◌∷◌, length, map, take, drop, filter_map, Option, Some, None}
use Rattle.std.specs.List.{range_with_len}
use Rattle.hfs_model.specs.declared.call.Call.{Call}
use Rattle.hfs_model.specs.declared.call.Call.TheVariants as call
use Rattle.hfs_model.specs.declared.call.Fork.{Fork}
use Rattle.hfs_model.specs.declared.call.Fork.TheVariants.{DataFork, ResFork}
use Rattle.hfs_model.specs.declared.reply.ItemKind.{ItemKind}
use Rattle.hfs_model.specs.declared.reply.ItemKind.TheVariants.{Folder, File}
use Rattle.hfs_put_plan.specs.declared.over.Placing.{Placing}
use Rattle.hfs_put_plan.specs.declared.over.Placing.TheVariants.{New, Kept, Replaced, Taken}
use Rattle.hfs_put_plan.specs.declared.steps.ForkPiece.{ForkPiece}
use Rattle.hfs_put_plan.specs.Steps.{fork_piece}
use Rattle.hfs_put_plan.specs.declared.items.PutItem.{PutItem}

-- those that there are
abbrev pub somes : List (Option Call) → List Call
somes calls = filter_map (λ call. call) calls

-- ---- an item is made

-- a file that is to be replaced is unlocked where it is locked
abbrev pub unlock_call : ℕ → List ℕ → Placing → ℕ → Option Call
unlock_call dir name (Replaced locked) now = if locked then Some (call.RstFLock dir name now) else None
unlock_call dir name New now = None
unlock_call dir name Kept now = None
unlock_call dir name Taken now = None

-- and deleted
abbrev pub delete_call : ℕ → List ℕ → Placing → ℕ → Option Call
delete_call dir name (Replaced locked) now = Some (call.Delete dir name now)
delete_call dir name New now = None
delete_call dir name Kept now = None
delete_call dir name Taken now = None

-- a fork that isn't empty gets its end
abbrev pub end_call : ℕ → List ℕ → Fork → ℕ → ℕ → Option Call
end_call dir name fork len now = if len == 0 then None else Some (call.SetEof dir name fork len now)

-- a folder that is there stays as it is
abbrev pub folder_call : ℕ → List ℕ → Placing → ℕ → Option Call
folder_call dir name Kept now = None
folder_call dir name New now = Some (call.DirCreate dir name now)
folder_call dir name (Replaced locked) now = Some (call.DirCreate dir name now)
folder_call dir name Taken now = Some (call.DirCreate dir name now)

abbrev pub file_making : ℕ → PutItem → ℕ → List (Option Call)
file_making dir item now =
    unlock_call dir item.name item.placing now
    ∷ delete_call dir item.name item.placing now
    ∷ Some (call.Create dir item.name now)
    ∷ end_call dir item.name DataFork item.data_len now
    ∷ end_call dir item.name ResFork item.resource_len now
    ∷ []

abbrev pub folder_making : ℕ → PutItem → ℕ → List (Option Call)
folder_making dir item now = folder_call dir item.name item.placing now ∷ []

abbrev pub making_of : ItemKind → ℕ → PutItem → ℕ → List (Option Call)
making_of Folder dir item now = folder_making dir item now
making_of File dir item now = file_making dir item now

-- the calls by which the item is there, its forks as long as they will be
abbrev pub making : ℕ → PutItem → ℕ → List (Option Call)
making dir item now = making_of item.kind dir item now

-- ---- its forks are written

-- the pieces of a fork of so many bytes, of which there are no more than bytes
abbrev pub fork_pieces : ℕ → List ForkPiece
fork_pieces len = filter_map (fork_piece len) (range_with_len 0 len)

abbrev pub write_call : ℕ → List ℕ → Fork → List ℕ → ℕ → ForkPiece → Call
write_call dir name fork bytes now piece = call.WriteFork dir name fork piece.offset (take piece.len (drop piece.offset bytes)) now

abbrev pub write_calls : ℕ → List ℕ → Fork → List ℕ → ℕ → List Call
write_calls dir name fork bytes now = map (write_call dir name fork bytes now) (fork_pieces (length bytes))

-- ---- it gets what is kept of it

abbrev pub facts_call : ℕ → PutItem → ℕ → Call
facts_call dir item now =
    let facts = item.facts in
    call.SetCatInfo dir item.name facts.dates.created facts.dates.modified facts.dates.backup facts.finder now

abbrev pub lock_call : ℕ → PutItem → ℕ → Option Call
lock_call dir item now = if item.facts.locked then Some (call.SetFLock dir item.name now) else None

abbrev pub folder_ending : ℕ → PutItem → Placing → ℕ → List (Option Call)
folder_ending dir item Kept now = []
folder_ending dir item New now = Some (facts_call dir item now) ∷ []
folder_ending dir item (Replaced locked) now = Some (facts_call dir item now) ∷ []
folder_ending dir item Taken now = Some (facts_call dir item now) ∷ []

abbrev pub file_ending : ℕ → PutItem → ℕ → List (Option Call)
file_ending dir item now = Some (facts_call dir item now) ∷ lock_call dir item now ∷ []

abbrev pub ending_of : ItemKind → ℕ → PutItem → ℕ → List (Option Call)
ending_of Folder dir item now = folder_ending dir item item.placing now
ending_of File dir item now = file_ending dir item now

-- the calls that follow the bytes of a file, and all that lies in a folder
abbrev pub ending : ℕ → PutItem → ℕ → List (Option Call)
ending dir item now = ending_of item.kind dir item now
