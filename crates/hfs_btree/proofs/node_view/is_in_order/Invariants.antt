use Rattle.hfs_btree.proofs.InOrderLemmas.{RiseTo}
use Rattle.hfs_btree.proofs.node_view.is_in_order.Given as goal

abbrev pub invariant-loop-i : goal.invariant-loop-i
invariant-loop-i l = RiseTo l.bytes l.i l.least
