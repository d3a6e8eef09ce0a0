-- What the workers take with them may go to another thread, since what they share may be used by several.
use denote.Exit.{no}
use denote.Param.{param}
use denote.Param.Send.{IsSync, arg_send, param_send}
use Rattle.std.proofs.Crossing as crossing
use Rattle.hfs_shared.specs.contracts.shared.Shared as shared
use Rattle.hfs_shared.proofs.SendLemmas.{shared_sync}
use Rattle.hfs_shared.proofs.SendLemmas.{captures_send, jobs_send}
use Rattle.hfs_shared_tests.proofs.beside.run_beside.Goals as goal

pub join-requires-send-F : goal.join-requires-send-F
join-requires-send-F g c κs within =
    let given : IsSync (shared.the_row (param 0 g.row.K) g.K.Session) = shared_sync (param 0 g.row.K) g.K.Session c.type_bounds.send-K in
    param_send _ _ (arg_send _ no _
    (captures_send _ _ _ _ _ _ _ _ _ _ _ _ given c.type_bounds.sync-R crossing.send c.type_bounds.sync-G (jobs_send _)))
