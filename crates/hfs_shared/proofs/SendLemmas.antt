-- What lies under the lock may go to another thread. `search` alone gives up at a limit, so each layer's law is given.
use Prim.Native.Nat.{ℕ}
use mathlib.Core.List.{List, [], ◌∷◌}
use denote.Builtin.{One, u64}
use denote.Ref.{NamedLft}
use denote.Struct.Field as field
use denote.Struct.Tuple as tuple
use denote.Param.Send.{IsSend, IsSync, recorded_send, sendable, struct_send, view_send}
use denote.RattleType.{RattleType}
use denote.Struct.Declared
use Rattle.std.proofs.Crossing.{crosses}
use Rattle.hfs_space.proofs.changed.ChangedBlocks.TheSendSync as changed_law
use Rattle.hfs_space.specs.contracts.changed.ChangedBlocks as changed
use Rattle.hfs_space.specs.contracts.log.WrittenLog as log
use Rattle.hfs_model.proofs.call.Call.TheSendSync as call_law
use Rattle.hfs_model.specs.contracts.call.Call as call
use Rattle.hfs_shared.specs.contracts.pass.Pass as pass
use Rattle.hfs_model.proofs.journal.Entry.TheSendSync as entry_law
use Rattle.hfs_model.specs.contracts.journal.Entry as entry
use Rattle.hfs_shared.proofs.pair.Pair.TheSendSync as pair_law
use Rattle.hfs_shared.specs.contracts.desk.Desk as desk
use Rattle.hfs_shared.specs.contracts.desk.Desk.TheInside as desk_inside
use Rattle.hfs_shared.specs.contracts.locked.Locked as locked
use Rattle.hfs_shared.specs.contracts.locked.Locked.TheInside as locked_inside
use Rattle.hfs_shared.specs.contracts.shared.Shared as shared
use Rattle.hfs_shared.specs.declared.session.Session
use Rattle.hfs_volume.proofs.base.Base.TheSendSync as base_law
use Rattle.hfs_volume.specs.contracts.base.Base as base
use Rattle.hfs_fields.specs.contracts.mdb.Mdb as mdb
use Rattle.hfs_blocks.specs.contracts.run.Run as run
use Rattle.hfs_volume.specs.contracts.image.Image as image
use Rattle.hfs_volume.specs.contracts.volume.Volume as volume
use Rattle.hfs_volume.specs.contracts.volume.Volume.TheInside as inside
use Rattle.std.specs.contracts.alloc.Global as heap
use Rattle.std.specs.contracts.impls.GlobalAllocator.TheImpl.{ghosts}
use Rattle.std.specs.contracts.vec.Vec as vec

log_send : IsSend log.the_row
log_send = search (crosses, sendable) depth 20

image_send : IsSend image.the_row
image_send =
    let a : IsSend base.the_row = base_law.the_send in
    let b : IsSend changed.the_row = changed_law.the_send in
    let c = log_send in
    search (crosses, sendable) depth 20

mdb_send : IsSend (mdb.the_field).row
mdb_send = search (crosses, sendable) depth 60 fits 20000

run_send : IsSend run.the_row
run_send = search (crosses, sendable) depth 60 fits 20000

runs_send : IsSend (vec.the_row run.the_row heap.the_row ghosts)
runs_send = let a = run_send in search (crosses, sendable) depth 20

volume_send : IsSend volume.the_row
volume_send =
    view_send inside.the_row _ _ _ _
    (recorded_send (inside.the_field).row _ _ (inside.the_type).to_one
    (struct_send (Declared.shape inside.the_type) (image_send, (mdb_send, (runs_send, (runs_send, tt))))))

entries_send : IsSend (vec.the_row entry.the_row heap.the_row ghosts)
entries_send = let a : IsSend entry.the_row = entry_law.the_send in search (crosses, sendable) depth 20

numbers_send : IsSend (vec.the_row u64 heap.the_row ghosts)
numbers_send = search (crosses, sendable) depth 20

desk_send : IsSend desk.the_row
desk_send =
    view_send desk_inside.the_row _ _ _ _
    (recorded_send (desk_inside.the_field).row _ _ (desk_inside.the_type).to_one
    (struct_send (Declared.shape desk_inside.the_type) (volume_send, (entries_send, (numbers_send, tt)))))

module _ (K : RattleType) (s : Session.Ghosts K.Denot) (sent : IsSend K) where
  locked_send : IsSend (locked.the_row K s)
  locked_send =
      view_send (locked_inside.the_row K s) _ _ _ _
      (recorded_send (locked_inside.the_field K s).row _ _ (locked_inside.the_type K s).to_one
      (struct_send (Declared.shape (locked_inside.the_type K s))
      (desk_send, (pair_law.the_send, (search (crosses, sendable) depth 20, (search (crosses, sendable) depth 20, (search (crosses, sendable) depth 20, tt)))))))

  pub shared_sync : IsSync (shared.the_row K s)
  shared_sync = let l = locked_send in search (crosses, sendable) depth 60 fits 20000

-- the jobs may be read by several threads
pub jobs_sync : (n : List ℕ) → IsSync (vec.the_row (tuple.TupleAt n (pass.the_row ∷ vec.the_row call.the_row heap.the_row ghosts ∷ [])) heap.the_row ghosts)
jobs_sync n =
    let called : IsSync call.the_row = call_law.the_sync in
    search (crosses, sendable) depth 20

-- what a closure over five references shares with other threads
pub captures_sync : (n : List ℕ) (ℓ ℓ' ℓ'' ℓ3 ℓ4 : NamedLft) (A B C D E : RattleType) (oa : One A.mir) (ob : One B.mir) (oc : One C.mir) (od : One D.mir) (oe : One E.mir)
    → IsSync A → IsSync B → IsSync C → IsSync D → IsSync E
    → IsSync (tuple.TupleAt n
    ((field.shr_ref_field ℓ A oa).row ∷ (field.shr_ref_field ℓ' B ob).row ∷ (field.shr_ref_field ℓ'' C oc).row ∷ (field.shr_ref_field ℓ3 D od).row
    ∷ (field.shr_ref_field ℓ4 E oe).row ∷ []))
captures_sync n ℓ ℓ' ℓ'' ℓ3 ℓ4 A B C D E oa ob oc od oe a b c d e = search sendable depth 20

-- what a closure that makes the workers' calls takes with it may go to another thread
pub jobs_send : (n : List ℕ) → IsSend (vec.the_row (tuple.TupleAt n (pass.the_row ∷ vec.the_row call.the_row heap.the_row ghosts ∷ [])) heap.the_row ghosts)
jobs_send n =
    let called : IsSend call.the_row = call_law.the_send in
    search (crosses, sendable) depth 20

pub captures_send : (n : List ℕ) (ℓ ℓ' ℓ3 : NamedLft) (A B C D E : RattleType) (oa : One A.mir) (ob : One B.mir) (od : One D.mir)
    → IsSync A → IsSync B → IsSend C → IsSync D → IsSend E
    → IsSend (tuple.TupleAt n ((field.shr_ref_field ℓ A oa).row ∷ (field.shr_ref_field ℓ' B ob).row ∷ C ∷ (field.shr_ref_field ℓ3 D od).row ∷ E ∷ []))
captures_send n ℓ ℓ' ℓ3 A B C D E oa ob od a b c d e = search sendable depth 20
