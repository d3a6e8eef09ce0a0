use Rattle.std.proofs.Common.{ap}
use Rattle.hfs_shared.specs.Tolds.{ToldState}
use Rattle.hfs_refused_memory.proofs.showing.answered_once.Goals as goal

pub returns-in-Ok : goal.returns-in-Ok
returns-in-Ok g c = ap (λ (t : ToldState). t.book) c.in-Ok.ensures.ok.1.told_is.tells
