-- No file is open then.
use Rattle.std.proofs.lemmas.Result.{on_ok_weaker}
use Rattle.hfs_put.proofs.files.HostFilesPlacedFiles.look_again.Goals as goal

pub returns-clause-same : goal.returns-clause-same
returns-clause-same g c = on_ok_weaker c.look_again.result (λ same host held. same host held.1) c.look_again.ensures.same
