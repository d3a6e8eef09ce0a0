use Rattle.std.proofs.Common.{ℕ, ◌++◌, List, Ok, Err, false, refl, sym, ap, ◌∙◌, arith}
use Rattle.std.proofs.lemmas.List.{get_or_default}
use Rattle.hfs_btree_checks.proofs.ShapeNode.{decodes}
use Rattle.hfs_btree_checks.proofs.ShapeChain.{wrong-map, map-from, forward-of, part-of}
use Rattle.hfs_btree_checks.proofs.shape_chain.visit_map_node.Goals as goal

pub returns-in_default-clause-wrong : goal.returns-in_default-clause-wrong
returns-in_default-clause-wrong g c = (
  refl,
  wrong-map (g.N.Nodes.nodes c.args.nodes.now) c.args.n (Err c.in_default.field-0) _
      (decodes (g.N.Nodes.nodes c.args.nodes.now) c.args.n c.read.new.into (Err c.in_default.field-0) c.read.ensures c.in_default.ensures.node)
      refl,
)

pub returns-then-not-is_map-clause-wrong : goal.returns-then-not-is_map-clause-wrong
returns-then-not-is_map-clause-wrong g c = (
  refl,
  wrong-map (g.N.Nodes.nodes c.args.nodes.now) c.args.n (Ok c.in-Ok.node) _
      (decodes (g.N.Nodes.nodes c.args.nodes.now) c.args.n c.read.new.into (Ok c.in-Ok.node) c.read.ensures c.in-Ok.ensures.node)
      (sym c.is_map.ensures ∙ c.if-not-is_map.true),
)

pub returns-clause-right : goal.returns-clause-right
returns-clause-right g c =
    let nodes = g.N.Nodes.nodes c.args.nodes.now in
    let ok = c.args.met.now.ok in
    map-from nodes c.args.n c.in-Ok.node _
    (omega arith)
    (omega arith)
    (decodes nodes c.args.n c.read.new.into (Ok c.in-Ok.node) c.read.ensures c.in-Ok.ensures.node)
    (sym c.is_map.ensures ∙ c.if-not-is_map.false)
    (get_or_default c.args.met.now.items c.args.n false c.index.result.now (omega arith) ∙ sym c.index.ensures ∙ c.if-index.false)

pub returns-clause-next : goal.returns-clause-next
returns-clause-next g c =
    let nodes = g.N.Nodes.nodes c.args.nodes.now in
    c.forward.ensures ∙ forward-of nodes c.args.n c.in-Ok.node (decodes nodes c.args.n c.read.new.into (Ok c.in-Ok.node) c.read.ensures c.in-Ok.ensures.node)

pub returns-clause-part : goal.returns-clause-part
returns-clause-part g c =
    let nodes = g.N.Nodes.nodes c.args.nodes.now in
    c.in_ok-extend_from_slice.ensures.items
    ∙ ap (λ (bytes : List ℕ). c.args.map.now.items ++ bytes)
    (c.record.ensures.bytes ∙ part-of nodes c.args.n c.in-Ok.node (decodes nodes c.args.n c.read.new.into (Ok c.in-Ok.node) c.read.ensures c.in-Ok.ensures.node))
