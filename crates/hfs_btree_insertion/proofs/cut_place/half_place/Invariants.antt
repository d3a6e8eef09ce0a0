use Rattle.std.proofs.Common.{◌≡◌, ◌+◌, ◌*◌, ◌≤◌, take}
use Rattle.hfs_btree.specs.Node.{size_of}
use Rattle.hfs_btree_insertion.proofs.cut_place.half_place.Given as goal

abbrev pub invariant-loop-i : goal.invariant-loop-i
invariant-loop-i l = record {
  so_far : l.before ≡ size_of (take l.i l.node.records);
  few : l.before + (l.len + 2) ≤ 496;
  even : 2 * l.before ≤ l.size + (l.len + 144);
}
