use Rattle.std.proofs.Common.{◌-◌, ◌<◌, sym, ap, ◌∙◌, subst, arith}
use Rattle.std.specs.Option.{is_none}
use Rattle.hfs_btree.specs.declared.header.Header.{Header}
use Rattle.hfs_btree.specs.Header.{depth_of}
use Rattle.hfs_btree_checks.specs.Subtree.{IsSubtree, is_subtree_keyed}
use Rattle.hfs_btree_checks.proofs.OrderTurn.{root-tree, keyed-root, keyed-empty}
use Rattle.hfs_btree_checks.proofs.order_index.index_keys_in_order.Goals as goal

pub returns-then-header-eq0 : goal.returns-then-header-eq0
returns-then-header-eq0 g c =
    let nodes = g.N.Nodes.nodes c.args.nodes.now in
    sym (ap is_none (keyed-empty g.K.Key nodes (sym (ap (λ (h : Header). h.depth) c.read_header-header.ensures) ∙ c.if-header-eq0.true)))

pub read_subtree-found-requires : goal.read_subtree-found-requires
read_subtree-found-requires g c =
    let nodes = g.N.Nodes.nodes c.args.nodes.now in
    let W : Header → Type 0 = λ h. IsSubtree g.K.Key nodes (h.depth - 1) h.root in
    let some : 0 < depth_of nodes = omega (arith, ap (λ (h : Header). h.depth) c.read_header-header.ensures) in
    subst W (sym c.read_header-header.ensures) (root-tree g.K.Key nodes c.requires some)

pub returns : goal.returns
returns g c =
    let nodes = g.N.Nodes.nodes c.args.nodes.now in
    let some : 0 < depth_of nodes = omega (arith, ap (λ (h : Header). h.depth) c.read_header-header.ensures) in
    c.read_subtree-found.ensures.ordered
    ∙ ap (λ (h : Header). is_subtree_keyed g.K.Key nodes (h.depth - 1) h.root) c.read_header-header.ensures
    ∙ keyed-root g.K.Key nodes some
