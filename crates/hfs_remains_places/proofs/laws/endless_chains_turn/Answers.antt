use Rattle.hfs_remains_places.proofs.LawsProved.{endless_chains_turn}
use Rattle.hfs_remains_places.proofs.laws.endless_chains_turn.Goals as goal

pub returns : goal.returns
returns c = endless_chains_turn
