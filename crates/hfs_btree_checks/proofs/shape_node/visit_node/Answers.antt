use Rattle.std.proofs.Common.{ℕ, ◌++◌, List, Vec, Global, Ok, Err, false, refl, sym, ap, ◌∙◌, arith}
use Rattle.std.proofs.lemmas.List.{get_or_default}
use Rattle.hfs_btree_checks.proofs.ShapeNode.{decodes, wrong-result, right-from, index-records, children-of, count-of}
use Rattle.hfs_btree_checks.proofs.shape_node.visit_node.Goals as goal
use Rattle.hfs_btree_checks.proofs.shape_node.visit_node.Goals.{then-above-gt0+in_ok-push_children, else-above-gt0}

pub returns-in_default-clause-wrong : goal.returns-in_default-clause-wrong
returns-in_default-clause-wrong g c = (
  refl,
  wrong-result g.K.Key (g.N.Nodes.nodes c.args.tree.now.nodes.now) _ (Err c.in_default.field-0) _
      (decodes (g.N.Nodes.nodes c.args.tree.now.nodes.now) c.args.spot.n c.read.new.into (Err c.in_default.field-0) c.read.ensures c.in_default.ensures.node)
      refl,
)

pub returns-then-not-is_at_place-clause-wrong : goal.returns-then-not-is_at_place-clause-wrong
returns-then-not-is_at_place-clause-wrong g c = (
  refl,
  wrong-result g.K.Key (g.N.Nodes.nodes c.args.tree.now.nodes.now) _ (Ok c.in-Ok.node) _
      (decodes (g.N.Nodes.nodes c.args.tree.now.nodes.now) c.args.spot.n c.read.new.into (Ok c.in-Ok.node) c.read.ensures c.in-Ok.ensures.node)
      (sym c.is_at_place.ensures ∙ c.if-not-is_at_place.true),
)

pub push_children-requires : goal.push_children-requires
push_children-requires g c =
    index-records g.K.Key (record { left = c.args.spot.left; n = c.args.spot.n; right = c.args.spot.right; above = c.args.spot.above }) c.in-Ok.node (sym c.is_at_place.ensures ∙ c.if-not-is_at_place.false) c.if-above-gt0.true

pub returns-clause-right : goal.returns-clause-right
returns-clause-right g c =
    let nodes = g.N.Nodes.nodes c.args.tree.now.nodes.now in
    let ok = c.args.met.now.ok in
    let counted = c.args.tree.now.counted in
    right-from g.K.Key nodes _ c.in-Ok.node _
    (omega arith)
    (omega arith)
    (decodes nodes c.args.spot.n c.read.new.into (Ok c.in-Ok.node) c.read.ensures c.in-Ok.ensures.node)
    (sym c.is_at_place.ensures ∙ c.if-not-is_at_place.false)
    (sym c.is_marked.ensures ∙ c.if-not-is_marked.false)
    (get_or_default c.args.met.now.items c.args.spot.n false c.index.result.now (omega arith) ∙ sym c.index.ensures ∙ c.if-index.false)

pub returns-clause-below : goal.returns-clause-below
returns-clause-below g c = λ some.
    let nodes = g.N.Nodes.nodes c.args.tree.now.nodes.now in
    let is = decodes nodes c.args.spot.n c.read.new.into (Ok c.in-Ok.node) c.read.ensures c.in-Ok.ensures.node in
    elim c.if-above-gt0.branch [
      | then-above-gt0+in_ok-push_children w ↦
          ap (λ (v : Vec ℕ Global). v.items) w.next-is ∙ w.in_ok-push_children.ensures ∙ ap (λ (ns : List ℕ). c.args.next.now.items ++ ns) (children-of g.K.Key nodes c.args.spot.n c.in-Ok.node is)
      | else-above-gt0 w ↦ absurd (omega arith)
    ]

pub returns-clause-records : goal.returns-clause-records
returns-clause-records g c =
    let nodes = g.N.Nodes.nodes c.args.tree.now.nodes.now in
    c.len.ensures.count ∙ count-of nodes c.args.spot.n c.in-Ok.node (decodes nodes c.args.spot.n c.read.new.into (Ok c.in-Ok.node) c.read.ensures c.in-Ok.ensures.node)
