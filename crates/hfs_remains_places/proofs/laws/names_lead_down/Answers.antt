use Rattle.hfs_remains_places.proofs.LawsProved.{names_lead_down}
use Rattle.hfs_remains_places.proofs.laws.names_lead_down.Goals as goal

pub returns : goal.returns
returns c = names_lead_down
