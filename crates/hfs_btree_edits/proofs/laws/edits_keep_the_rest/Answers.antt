use Rattle.hfs_btree_edits.proofs.BehindLemmas.{node-behind}
use Rattle.hfs_btree_edits.proofs.laws.edits_keep_the_rest.Goals as goal

pub returns : goal.returns
returns g c = λ old new sound keeps n le. node-behind g.K.Key old new sound keeps n le
