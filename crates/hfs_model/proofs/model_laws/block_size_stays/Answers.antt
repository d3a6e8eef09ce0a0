use Rattle.hfs_model.proofs.Leaves.{block_size_stays}
use Rattle.hfs_model.proofs.model_laws.block_size_stays.Goals as goal

pub returns : goal.returns
returns c = block_size_stays
