use Rattle.std.proofs.Common.{◌≡◌, ◌+◌, drop}
use Rattle.std.specs.List.{prefix_len}
use Rattle.hfs_btree.specs.Search.{is_not_above}
use Rattle.hfs_btree.proofs.search.place_above.Given as goal

abbrev pub invariant-loop-i : goal.invariant-loop-i
invariant-loop-i g l = prefix_len (is_not_above g.K.Key l.key) l.node.records ≡ l.i + prefix_len (is_not_above g.K.Key l.key) (drop l.i l.node.records)
