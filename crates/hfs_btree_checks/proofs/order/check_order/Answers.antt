use Rattle.std.proofs.Common.{None, Some, sym, ◌∙◌}
use Rattle.hfs_btree_checks.proofs.OrderLawLemmas.{order-law}
use Rattle.hfs_btree_checks.proofs.OrderWhole.{order-first, order-second}
use Rattle.hfs_btree_checks.proofs.order.check_order.Goals as goal

pub returns-in-Some-clause-place : goal.returns-in-Some-clause-place
returns-in-Some-clause-place g c = order-first g.K.Key (g.N.Nodes.nodes c.args.nodes.now) c.in-Some.n (sym c.index_order_fault.ensures ∙ c.in-Some.is)

pub returns-in-Some-clause-law : goal.returns-in-Some-clause-law
returns-in-Some-clause-law g c = order-law g.K.Key (g.N.Nodes.nodes c.args.nodes.now)

pub returns-in-Some-leaf_order_fault-clause-place : goal.returns-in-Some-leaf_order_fault-clause-place
returns-in-Some-leaf_order_fault-clause-place g c =
    order-second g.K.Key (g.N.Nodes.nodes c.args.nodes.now) (Some c.in-Some-leaf_order_fault.n) (sym c.index_order_fault.ensures ∙ c.in_default.is) (sym c.leaf_order_fault.ensures ∙ c.in-Some-leaf_order_fault.is)

pub returns-in-Some-leaf_order_fault-clause-law : goal.returns-in-Some-leaf_order_fault-clause-law
returns-in-Some-leaf_order_fault-clause-law g c = order-law g.K.Key (g.N.Nodes.nodes c.args.nodes.now)

pub returns-clause-place : goal.returns-clause-place
returns-clause-place g c =
    order-second g.K.Key (g.N.Nodes.nodes c.args.nodes.now) None (sym c.index_order_fault.ensures ∙ c.in_default.is) (sym c.leaf_order_fault.ensures ∙ c.in_default-leaf_order_fault.is)

pub returns-clause-ordered : goal.returns-clause-ordered
returns-clause-ordered g c =
    let nodes = g.N.Nodes.nodes c.args.nodes.now in
    (order-law g.K.Key nodes).0 (order-second g.K.Key nodes None (sym c.index_order_fault.ensures ∙ c.in_default.is) (sym c.leaf_order_fault.ensures ∙ c.in_default-leaf_order_fault.is))

pub returns-clause-law : goal.returns-clause-law
returns-clause-law g c = order-law g.K.Key (g.N.Nodes.nodes c.args.nodes.now)
