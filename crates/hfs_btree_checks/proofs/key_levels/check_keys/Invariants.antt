use Rattle.std.proofs.Common.{◌≡◌}
use Rattle.hfs_fields.specs.Each.{Each}
use Rattle.hfs_btree.specs.Tree.{turn}
use Rattle.hfs_btree.specs.Sound.{IsRight}
use Rattle.hfs_btree_checks.specs.Order.{first_node, has_keys, key_fault}
use Rattle.hfs_btree_checks.proofs.key_levels.check_keys.Given as goal

abbrev pub invariant-loop-below : goal.invariant-loop-below
invariant-loop-below g l = record {
  same : key_fault g.K.Key (g.N.Nodes.nodes l.nodes) (g.T.KeyTest.passes l.test)
      ≡ first_node (has_keys g.K.Key (g.N.Nodes.nodes l.nodes) (g.T.KeyTest.passes l.test)) (turn g.K.Key (g.N.Nodes.nodes l.nodes) l.below l.level.items);
  right : Each (IsRight g.K.Key (g.N.Nodes.nodes l.nodes)) (turn g.K.Key (g.N.Nodes.nodes l.nodes) l.below l.level.items);
}

abbrev pub decreases-loop-below : goal.decreases-loop-below
decreases-loop-below g l = l.below
