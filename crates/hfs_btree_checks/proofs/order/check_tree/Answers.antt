use Rattle.hfs_btree_checks.specs.Order.{order_fault, tree_fault}
use Rattle.hfs_btree_checks.proofs.OrderLawLemmas.{sound-law}
use Rattle.hfs_btree_checks.proofs.ShapeTurn.{passed-fault}
use Rattle.hfs_btree_checks.proofs.OrderWhole.{tree-first, tree-second, as-fault}
use Rattle.hfs_btree_checks.proofs.order.check_tree.Goals as goal

pub returns-in_err-check_shape-clause-place : goal.returns-in_err-check_shape-clause-place
returns-in_err-check_shape-clause-place g c =
    passed-fault c.from_residual.result c.in_err-check_shape.field-0.0 _ _ c.from_residual.ensures.1
    (tree-first g.K.Key (g.N.Nodes.nodes c.args.nodes.now) c.args.size c.in_err-check_shape.field-0.0 c.in_err-check_shape.ensures.place)

pub returns-in_err-check_shape-clause-law : goal.returns-in_err-check_shape-clause-law
returns-in_err-check_shape-clause-law g c = sound-law g.K.Key c.args.size (g.N.Nodes.nodes c.args.nodes.now)

pub returns-clause-place : goal.returns-clause-place
returns-clause-place g c =
    let nodes = g.N.Nodes.nodes c.args.nodes.now in
    as-fault c.check_order.result (order_fault g.K.Key nodes) (tree_fault g.K.Key c.args.size nodes) (tree-second g.K.Key nodes c.args.size c.in_ok-check_shape.ensures.place) c.check_order.ensures.place

pub returns-clause-law : goal.returns-clause-law
returns-clause-law g c = sound-law g.K.Key c.args.size (g.N.Nodes.nodes c.args.nodes.now)
