use Rattle.hfs_btree_edits.proofs.FreeAfterLemmas.{free-after, free-same_depth}
use Rattle.hfs_btree_edits.proofs.laws.insertions_take_few_nodes.Goals as goal

pub returns : goal.returns
returns g c = λ key body old new h. (free-after g.K.Key old new key body h, free-same_depth g.K.Key old new key body h)
