use Rattle.hfs_model.proofs.ForkCallLawsProved.{write_fork_is_set_eof_and_bytes}
use Rattle.hfs_model.proofs.fork_call_laws.write_fork_is_set_eof_and_bytes.Goals as goal

pub returns : goal.returns
returns c = write_fork_is_set_eof_and_bytes
