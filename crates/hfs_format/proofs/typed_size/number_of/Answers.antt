use Rattle.hfs_format.proofs.TypedLemmas.{not-numeral}
use Rattle.hfs_format.proofs.typed_size.number_of.Goals as goal

pub returns-in-Err : goal.returns-in-Err
returns-in-Err c = λ both. not-numeral c.args.digits.now c.in-Err.ensures.cases.0 both.0
