use Rattle.hfs_image.proofs.MarkedLaw.{trees-same}
use Rattle.hfs_image.proofs.laws.marked_nodes_decide.Goals as goal

pub returns : goal.returns
returns g c = trees-same g.K.Key
