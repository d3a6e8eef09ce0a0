use Rattle.std.proofs.Common.{◌≡◌, ◌≤◌, ◌*◌, take}
use Rattle.hfs_btree.specs.Node.{size_of}
use Rattle.hfs_btree_insertion.proofs.way.size_in.Given as goal

abbrev pub invariant-loop-i : goal.invariant-loop-i
invariant-loop-i l = record {
  so_far : l.size ≡ size_of (take l.i l.node.records);
  few : l.size ≤ 496 * l.i;
}
