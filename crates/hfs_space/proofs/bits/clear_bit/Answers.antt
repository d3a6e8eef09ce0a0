-- One bit is cleared in its byte.
use Rattle.hfs_space.proofs.Marks.{is_marked-with_clear_same, is_marked-with_clear_other}
use Rattle.std.proofs.Common.{arith}
use Rattle.hfs_space.proofs.bits.clear_bit.Goals as goal

pub returns-clause-clear : goal.returns-clause-clear
returns-clause-clear c = is_marked-with_clear_same c.args.bytes.now c.args.i (omega arith)

pub returns-clause-others : goal.returns-clause-others
returns-clause-others c k apart = is_marked-with_clear_other c.args.bytes.now c.args.i k (omega arith) apart
