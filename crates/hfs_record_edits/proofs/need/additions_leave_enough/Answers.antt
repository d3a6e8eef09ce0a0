use Rattle.hfs_record_edits.proofs.Adds.{enough-left}
use Rattle.hfs_record_edits.proofs.need.additions_leave_enough.Goals as goal

pub returns : goal.returns
returns c = enough-left
