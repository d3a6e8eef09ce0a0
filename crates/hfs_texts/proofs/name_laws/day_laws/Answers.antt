-- each day is found
use Rattle.hfs_texts.proofs.DayLaw.{days-found}
use Rattle.hfs_texts.proofs.name_laws.day_laws.Goals as goal

pub returns : goal.returns
returns c = days-found
