use Rattle.std.proofs.Common.{sym}
use Rattle.hfs_btree.proofs.DecodingLemmas.{node_of-unknown, node_of-outside, node_of-falling, node_of-ok, node_with-fits}
use Rattle.hfs_btree.proofs.InOrderLemmas.{in_order-node, in_order-falls}
use Rattle.hfs_btree.proofs.node_view.view.Goals as goal

pub returns-in_default-clause-node : goal.returns-in_default-clause-node
returns-in_default-clause-node c = sym (node_of-unknown c.args.bytes.now (cc))

pub returns-then-is_in_order-clause-node : goal.returns-then-is_in_order-clause-node
returns-then-is_in_order-clause-node c =
    sym (node_of-ok c.in-Some.kind c.args.bytes.now (in_order-node c.in-Some.kind c.args.bytes.now (sym c.in-Some.ensures) (cc)))

pub returns-then-is_in_order-clause-fits : goal.returns-then-is_in_order-clause-fits
returns-then-is_in_order-clause-fits c =
    node_with-fits c.in-Some.kind c.args.bytes.now (in_order-node c.in-Some.kind c.args.bytes.now (sym c.in-Some.ensures) (cc))

pub returns-then-not-is_inside-clause-node : goal.returns-then-not-is_inside-clause-node
returns-then-not-is_inside-clause-node c = sym (node_of-outside c.args.bytes.now {kind = c.in-Some.kind} (sym c.in-Some.ensures) (cc))

pub returns-clause-node : goal.returns-clause-node
returns-clause-node c =
    sym (node_of-falling c.args.bytes.now {kind = c.in-Some.kind} (sym c.in-Some.ensures) (cc) (in_order-falls c.args.bytes.now (cc) (cc)))
