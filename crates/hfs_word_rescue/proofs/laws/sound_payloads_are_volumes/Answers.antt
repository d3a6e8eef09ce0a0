use Rattle.hfs_word_rescue.proofs.LawsProved.{sound_payloads_are_volumes}
use Rattle.hfs_word_rescue.proofs.laws.sound_payloads_are_volumes.Goals as goal

pub returns : goal.returns
returns c = sound_payloads_are_volumes
