use Rattle.std.proofs.Common.{◌≡◌, ◌++◌, take, map}
use Rattle.std.specs.List.{flat_map}
use Rattle.hfs_btree.specs.Tree.{records_in, children}
use Rattle.hfs_btree_checks.proofs.index_levels.read_level_keys.Given as goal

abbrev pub invariant-loop-i : goal.invariant-loop-i
invariant-loop-i g l = record {
  keys : l.keys.items ≡ l.initial.keys.items ++ flat_map (λ n. map g.K.Key.index_key (records_in (g.N.Nodes.nodes l.nodes) n)) (take l.i l.level);
  next : l.next.items ≡ flat_map (children g.K.Key (g.N.Nodes.nodes l.nodes)) (take l.i l.level);
}
