use Rattle.hfs_model.proofs.Parents.{root_within}
use Rattle.hfs_model.proofs.model_laws.root_is_within.Goals as goal

pub returns : goal.returns
returns c = λ v h steps id. root_within v.items v.next_id h steps id
