use Rattle.hfs_record_edits.proofs.WantsProved.{write_fork_wants_are_told}
use Rattle.hfs_record_edits.proofs.room.write_fork_wants_are_told.Goals as goal

pub returns : goal.returns
returns c = write_fork_wants_are_told
