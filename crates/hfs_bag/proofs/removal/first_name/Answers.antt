-- The text is cut at its first zero byte.
use Rattle.std.proofs.Common.{arith}
use Rattle.hfs_bag.proofs.NameLemmas.{first_name-cut}
use Rattle.hfs_bag.proofs.removal.first_name.Goals as goal

pub returns-clause-cut : goal.returns-clause-cut
returns-clause-cut c = first_name-cut c.args.names.now c.split_once.result (c.split_once.ensures.byte (omega arith) (λ w o is. is))
