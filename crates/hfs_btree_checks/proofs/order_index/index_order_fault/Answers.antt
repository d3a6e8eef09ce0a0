use Rattle.std.proofs.Common.{◌≡◌, ℕ, ◌-◌, ◌<◌, ◌∷◌, [], sym, ap, ◌∙◌, subst, arith}
use Rattle.hfs_btree.specs.declared.header.Header.{Header}
use Rattle.hfs_btree.specs.Tree.{level_below}
use Rattle.hfs_btree.specs.Header.{depth_of, root_level}
use Rattle.hfs_btree_checks.specs.Subtree.{IsSubtree}
use Rattle.hfs_btree_checks.proofs.OrderTurn.{first, root-tree, fault-from, from-leaves, level-found, level-passed}
use Rattle.hfs_btree_checks.proofs.order_index.index_order_fault.Goals as goal

pub loop-at-init : goal.loop-at-init
loop-at-init g c =
    let nodes = g.N.Nodes.nodes c.args.nodes.now in
    let deep = ap (λ (h : Header). h.depth) c.read_header-header.ensures in
    record { same = fault-from g.K.Key nodes c.read_header-header.result.depth deep; within = omega arith }

pub first_unkeyed-found-requires-clause-tree : goal.first_unkeyed-found-requires-clause-tree
first_unkeyed-found-requires-clause-tree g c =
    let nodes = g.N.Nodes.nodes c.args.nodes.now in
    let W : Header → Type 0 = λ h. IsSubtree g.K.Key nodes (h.depth - 1) h.root in
    let within = c.loop-at.invariant.within in
    let some : 0 < depth_of nodes = omega arith in
    subst W (sym c.read_header-header.ensures) (root-tree g.K.Key nodes c.requires some)

pub first_unkeyed-found-requires-clause-below : goal.first_unkeyed-found-requires-clause-below
first_unkeyed-found-requires-clause-below g c = let within = c.loop-at.invariant.within in omega (arith, ap (λ (h : Header). h.depth) c.read_header-header.ensures)

pub returns-then-is_some : goal.returns-then-is_some
returns-then-is_some g c =
    let nodes = g.N.Nodes.nodes c.args.nodes.now in
    let at = c.loop-at.at in
    let within = c.loop-at.invariant.within in
    let lower : depth_of nodes - 1 - (at - 1) ≡ depth_of nodes - at = omega arith in
    let same : c.first_unkeyed-found.result ≡ first g.K.Key nodes (at - 1) (level_below g.K.Key nodes (depth_of nodes - at) (root_level nodes)) =
    c.first_unkeyed-found.ensures
    ∙ ap (λ (h : Header). first g.K.Key nodes (at - 1) (level_below g.K.Key nodes (h.depth - 1 - (at - 1)) (h.root ∷ []))) c.read_header-header.ensures
    ∙ ap (λ (d : ℕ). first g.K.Key nodes (at - 1) (level_below g.K.Key nodes d (root_level nodes))) lower in
    sym (c.loop-at.invariant.same ∙ level-found g.K.Key nodes at c.loop-at-test.true within c.first_unkeyed-found.result same (sym c.is_some.ensures ∙ c.if-is_some.true))

pub loop-at-preserved : goal.loop-at-preserved
loop-at-preserved g c =
    let nodes = g.N.Nodes.nodes c.args.nodes.now in
    let at = c.loop-at.at in
    let within = c.loop-at.invariant.within in
    let lower : depth_of nodes - 1 - (at - 1) ≡ depth_of nodes - at = omega arith in
    let same : c.first_unkeyed-found.result ≡ first g.K.Key nodes (at - 1) (level_below g.K.Key nodes (depth_of nodes - at) (root_level nodes)) =
    c.first_unkeyed-found.ensures
    ∙ ap (λ (h : Header). first g.K.Key nodes (at - 1) (level_below g.K.Key nodes (h.depth - 1 - (at - 1)) (h.root ∷ []))) c.read_header-header.ensures
    ∙ ap (λ (d : ℕ). first g.K.Key nodes (at - 1) (level_below g.K.Key nodes d (root_level nodes))) lower in
    record {
      same = c.loop-at.invariant.same ∙ level-passed g.K.Key nodes at c.loop-at-test.true within c.first_unkeyed-found.result same (sym c.is_some.ensures ∙ c.if-is_some.false);
      within = omega arith;
    }

pub returns : goal.returns
returns g c =
    let nodes = g.N.Nodes.nodes c.args.nodes.now in
    sym (c.loop-at.invariant.same ∙ from-leaves g.K.Key nodes c.loop-at.at (level_below g.K.Key nodes (depth_of nodes - c.loop-at.at) (root_level nodes)) (omega arith))
