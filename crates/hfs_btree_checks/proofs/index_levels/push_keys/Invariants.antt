use Rattle.std.proofs.Common.{◌≡◌, ◌++◌, take, map}
use Rattle.hfs_btree_checks.proofs.index_levels.push_keys.Given as goal

abbrev pub invariant-loop-i : goal.invariant-loop-i
invariant-loop-i g l = l.keys.items ≡ l.initial.keys.items ++ map g.K.Key.index_key (take l.i l.node.records)
