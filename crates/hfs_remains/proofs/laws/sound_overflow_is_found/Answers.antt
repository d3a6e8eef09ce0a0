use Rattle.hfs_remains.proofs.LawsProved.{sound_overflow_is_found}
use Rattle.hfs_remains.proofs.laws.sound_overflow_is_found.Goals as goal

pub returns : goal.returns
returns c = sound_overflow_is_found
