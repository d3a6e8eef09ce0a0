use Rattle.std.proofs.Common.{◌≡◌, take}
use Rattle.hfs_btree.proofs.node_view.NodeView.copied_records.Given as goal

abbrev pub invariant-loop-i : goal.invariant-loop-i
invariant-loop-i l = l.records ≡ take l.i l.self.records
