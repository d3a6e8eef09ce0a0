use Rattle.std.proofs.Common.{◌≡◌, ◌++◌, ◌+◌, drop, filter}
use Rattle.hfs_btree.specs.Node.{offset_of}
use Rattle.hfs_catalog.specs.Indexes.{count_of}
use Rattle.hfs_repair.specs.Placed.{is_wrong, placed_from}
use Rattle.hfs_repair.proofs.valences.push_leaf.Given as goal

abbrev pub invariant-loop-i : goal.invariant-loop-i
invariant-loop-i l = l.wrong.items ++ filter is_wrong (placed_from (count_of l.children) (λ k. l.start + offset_of l.bytes k) l.i (drop l.i l.node.records))
    ≡ l.initial.wrong.items ++ filter is_wrong (placed_from (count_of l.children) (λ k. l.start + offset_of l.bytes k) 0 l.node.records)
