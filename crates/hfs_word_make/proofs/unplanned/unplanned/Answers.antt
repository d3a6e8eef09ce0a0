-- What can't be put is told.
use Rattle.std.proofs.Common.{inr}
use Rattle.hfs_word_make.proofs.unplanned.unplanned.Goals as goal

pub returns-in-Err : goal.returns-in-Err
returns-in-Err c = inr c.in-Err.ensures
