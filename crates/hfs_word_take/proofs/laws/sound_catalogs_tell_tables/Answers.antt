use Rattle.hfs_word_take.proofs.LawsProved.{sound_catalogs_tell_tables}
use Rattle.hfs_word_take.proofs.laws.sound_catalogs_tell_tables.Goals as goal

pub returns : goal.returns
returns c = sound_catalogs_tell_tables
