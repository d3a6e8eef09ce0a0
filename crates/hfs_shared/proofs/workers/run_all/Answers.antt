-- What the jobs share may be used by several threads, since what lies under the lock may go to another.
use denote.Exit.{no}
use denote.Param.{param}
use denote.Param.Send.{IsSync, arg_sync, param_sync}
use Rattle.std.proofs.Crossing as crossing
use Rattle.hfs_shared.specs.contracts.shared.Shared as shared
use Rattle.hfs_shared.proofs.SendLemmas.{captures_sync, jobs_sync, shared_sync}
use Rattle.hfs_shared.proofs.workers.run_all.Goals as goal

pub for_each_mut-requires-sync-F : goal.for_each_mut-requires-sync-F
for_each_mut-requires-sync-F g c κs within =
    let given : IsSync (shared.the_row (param 0 g.row.K) g.K.Session) = shared_sync (param 0 g.row.K) g.K.Session c.type_bounds.send-K in
    param_sync 2 _ (arg_sync _ no _
    (captures_sync _ _ _ _ _ _ _ _ _ _ _ _ _ _ _ _ given c.type_bounds.sync-R crossing.sync c.type_bounds.sync-G (jobs_sync _)))
