-- One bit is set in its byte.
use Rattle.std.proofs.Common.{arith}
use Rattle.hfs_space.proofs.SetBits.{is_marked-with_set_same, is_marked-with_set_other}
use Rattle.hfs_space.proofs.free_bits.set_bit.Goals as goal

pub returns-clause-set : goal.returns-clause-set
returns-clause-set c = is_marked-with_set_same c.args.bytes.now c.args.i (omega arith)

pub returns-clause-others : goal.returns-clause-others
returns-clause-others c k apart = is_marked-with_set_other c.args.bytes.now c.args.i k (omega arith) apart
