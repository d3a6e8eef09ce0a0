use Rattle.std.proofs.Common.{◌≡◌, ◌<◌, drop, take}
use Rattle.std.specs.List.{flat_map}
use Rattle.hfs_btree.specs.Tree.{children}
use Rattle.hfs_btree_checks.specs.KeySteps.{level_key_fault}
use Rattle.hfs_btree_checks.proofs.key_levels.check_level_keys.Given as goal

abbrev pub invariant-loop-i : goal.invariant-loop-i
invariant-loop-i g l = record {
  same : level_key_fault g.K.Key (g.N.Nodes.nodes l.nodes) (g.T.KeyTest.passes l.test) l.above l.level
      ≡ level_key_fault g.K.Key (g.N.Nodes.nodes l.nodes) (g.T.KeyTest.passes l.test) l.above (drop l.i l.level);
  next : 0 < l.above → l.next.items ≡ flat_map (children g.K.Key (g.N.Nodes.nodes l.nodes)) (take l.i l.level);
}
