use Rattle.hfs_record_edits.proofs.WantsProved.{fork_wants_are_told}
use Rattle.hfs_record_edits.proofs.room.fork_wants_are_told.Goals as goal

pub returns : goal.returns
returns c = fork_wants_are_told
