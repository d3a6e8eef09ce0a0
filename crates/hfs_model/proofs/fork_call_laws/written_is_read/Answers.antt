use Rattle.hfs_model.proofs.ForkCallLawsProved.{written_is_read}
use Rattle.hfs_model.proofs.fork_call_laws.written_is_read.Goals as goal

pub returns : goal.returns
returns c = written_is_read
