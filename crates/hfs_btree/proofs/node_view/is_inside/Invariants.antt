use Rattle.std.proofs.Common.{◌≡◌, ◌-◌, ◌*◌, true, ◌&&◌}
use Rattle.std.specs.Prelude.{nat_le}
use Rattle.hfs_btree.specs.Node.{offset_of, count_of, each_below}
use Rattle.hfs_btree.proofs.node_view.is_inside.Given as goal

abbrev pub invariant-loop-i : goal.invariant-loop-i
invariant-loop-i l =
    each_below l.i (λ i. nat_le 14 (offset_of l.bytes i) && nat_le (offset_of l.bytes i) (510 - 2 * count_of l.bytes)) ≡ true
