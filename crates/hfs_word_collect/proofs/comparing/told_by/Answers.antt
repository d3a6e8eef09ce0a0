-- What is told by a length and a digest was read.
use Rattle.hfs_word_collect.proofs.Comparisons.{read_by}
use Rattle.hfs_word_collect.proofs.comparing.told_by.Goals as goal

pub returns-clause-read : goal.returns-clause-read
returns-clause-read c = read_by c.args.known.now c.compared.result c.args.len c.args.digits.now c.compared.ensures
