use Rattle.hfs_repair.proofs.Repaired.{keeps-others}
use Rattle.hfs_repair.proofs.repair_laws.repair_keeps_others.Goals as goal

pub returns : goal.returns
returns c = keeps-others
