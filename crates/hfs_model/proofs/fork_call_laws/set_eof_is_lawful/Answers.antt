use Rattle.hfs_model.proofs.ForkCallLawsProved.{set_eof_is_lawful}
use Rattle.hfs_model.proofs.fork_call_laws.set_eof_is_lawful.Goals as goal

pub returns : goal.returns
returns c = set_eof_is_lawful
