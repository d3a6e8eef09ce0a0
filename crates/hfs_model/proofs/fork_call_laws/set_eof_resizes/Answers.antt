use Rattle.hfs_model.proofs.ForkCallLawsProved.{set_eof_resizes}
use Rattle.hfs_model.proofs.fork_call_laws.set_eof_resizes.Goals as goal

pub returns : goal.returns
returns c = set_eof_resizes
