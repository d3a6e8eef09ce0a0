use Rattle.hfs_model.proofs.Leaves.{full_where_wanted}
use Rattle.hfs_model.proofs.model_laws.full_where_wanted.Goals as goal

pub returns : goal.returns
returns c = full_where_wanted
