use Rattle.std.proofs.Common.{◌≡◌, ◌++◌}
use Rattle.std.specs.List.{flat_map}
use Rattle.hfs_fields.specs.Each.{Each}
use Rattle.hfs_btree.specs.Tree.{turn}
use Rattle.hfs_btree.specs.Sound.{IsRight}
use Rattle.hfs_btree_checks.specs.Order.{index_keys_at, index_keys}
use Rattle.hfs_btree_checks.proofs.index_levels.index_keys.Given as goal

abbrev pub invariant-loop-below : goal.invariant-loop-below
invariant-loop-below g l = record {
  same : index_keys g.K.Key (g.N.Nodes.nodes l.nodes)
      ≡ l.keys.items ++ flat_map (index_keys_at g.K.Key (g.N.Nodes.nodes l.nodes)) (turn g.K.Key (g.N.Nodes.nodes l.nodes) l.below l.level.items);
  right : Each (IsRight g.K.Key (g.N.Nodes.nodes l.nodes)) (turn g.K.Key (g.N.Nodes.nodes l.nodes) l.below l.level.items);
}

abbrev pub decreases-loop-below : goal.decreases-loop-below
decreases-loop-below g l = l.below
