use Rattle.hfs_model.proofs.ForkCallLawsProved.{write_fork_is_lawful}
use Rattle.hfs_model.proofs.fork_call_laws.write_fork_is_lawful.Goals as goal

pub returns : goal.returns
returns c = write_fork_is_lawful
