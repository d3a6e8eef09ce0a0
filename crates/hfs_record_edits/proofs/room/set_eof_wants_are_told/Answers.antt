use Rattle.hfs_record_edits.proofs.WantsProved.{set_eof_wants_are_told}
use Rattle.hfs_record_edits.proofs.room.set_eof_wants_are_told.Goals as goal

pub returns : goal.returns
returns c = set_eof_wants_are_told
