use Rattle.std.proofs.Common.{ℕ, ◌<◌, ◌^◌, sym, ap, ◌∙◌, subst}
use Rattle.hfs_btree.specs.declared.header.Header.{Header}
use Rattle.hfs_btree_checks.specs.declared.tree_counts.TreeCounts.{TreeCounts}
use Rattle.hfs_btree_checks.specs.Shape.{unless}
use Rattle.hfs_btree_checks.proofs.ShapeLawLemmas.{shape-law}
use Rattle.hfs_btree_checks.specs.Counts as spec
use Rattle.hfs_btree_checks.proofs.ShapeTurn.{passed-fault}
use Rattle.hfs_btree_checks.proofs.ShapeWhole.{structure-first, counted-fault, tells-right}
use Rattle.hfs_btree_checks.proofs.shape.check_shape.Goals as goal

pub returns-in_err-counts-clause-place : goal.returns-in_err-counts-clause-place
returns-in_err-counts-clause-place g c =
    let nodes = g.N.Nodes.nodes c.args.nodes.now in
    let e = c.in_err-counts.field-0.0 in
    passed-fault c.from_residual.result e _ _ c.from_residual.ensures.1 (structure-first g.K.Key c.args.size nodes e c.in_err-counts.ensures.place)

pub returns-then-tells_right-clause-place : goal.returns-then-tells_right-clause-place
returns-then-tells_right-clause-place g c =
    let nodes = g.N.Nodes.nodes c.args.nodes.now in
    let is = c.in_ok-counts.ensures.counts in
    let few = subst (λ (counts : TreeCounts). counts.header.records < 2 ^ 32) is c.tells_right.ensures.small in
    counted-fault g.K.Key c.args.size nodes c.tells_right.result c.in_ok-counts.ensures.place
    (c.tells_right.ensures.right ∙ ap spec.tells_right is ∙ tells-right g.K.Key c.args.size nodes few) ∙ ap unless c.if-tells_right.true

pub returns-then-tells_right-clause-shaped : goal.returns-then-tells_right-clause-shaped
returns-then-tells_right-clause-shaped g c =
    let nodes = g.N.Nodes.nodes c.args.nodes.now in
    let is = c.in_ok-counts.ensures.counts in
    let few = subst (λ (counts : TreeCounts). counts.header.records < 2 ^ 32) is c.tells_right.ensures.small in
    (shape-law g.K.Key c.args.size nodes).0
    (counted-fault g.K.Key c.args.size nodes c.tells_right.result c.in_ok-counts.ensures.place
    (c.tells_right.ensures.right ∙ ap spec.tells_right is ∙ tells-right g.K.Key c.args.size nodes few) ∙ ap unless c.if-tells_right.true)

pub returns-else-tells_right-clause-place : goal.returns-else-tells_right-clause-place
returns-else-tells_right-clause-place g c =
    let nodes = g.N.Nodes.nodes c.args.nodes.now in
    let is = c.in_ok-counts.ensures.counts in
    let few = subst (λ (counts : TreeCounts). counts.header.records < 2 ^ 32) is c.tells_right.ensures.small in
    counted-fault g.K.Key c.args.size nodes c.tells_right.result c.in_ok-counts.ensures.place
    (c.tells_right.ensures.right ∙ ap spec.tells_right is ∙ tells-right g.K.Key c.args.size nodes few) ∙ ap unless c.if-tells_right.false

pub returns-in_err-counts-clause-law : goal.returns-in_err-counts-clause-law
returns-in_err-counts-clause-law g c = shape-law g.K.Key c.args.size (g.N.Nodes.nodes c.args.nodes.now)

pub returns-then-tells_right-clause-law : goal.returns-then-tells_right-clause-law
returns-then-tells_right-clause-law g c = shape-law g.K.Key c.args.size (g.N.Nodes.nodes c.args.nodes.now)

pub returns-else-tells_right-clause-law : goal.returns-else-tells_right-clause-law
returns-else-tells_right-clause-law g c = shape-law g.K.Key c.args.size (g.N.Nodes.nodes c.args.nodes.now)
