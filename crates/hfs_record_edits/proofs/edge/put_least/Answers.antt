use Rattle.hfs_btree_edits.proofs.StoreLemmas.{on-ok}
use Rattle.hfs_record_edits.proofs.SetEdge.{leaf-within, leaf-decodes}
use Rattle.hfs_record_edits.proofs.LowerLeast.{least-some, least-whole, least-fits, lower-least}
use Rattle.hfs_record_edits.proofs.edge.put_least.Goals as goal

pub read-requires : goal.read-requires
read-requires g c =
    leaf-within g.K.Key c.args.key.now (g.S.Nodes.nodes c.args.nodes.now) (g.S.Nodes.nodes c.set_edge.new.nodes) c.requires.some c.in_ok-n.n c.in_ok-n.ensures.leaf c.in_ok-n.ensures.set

pub viewed-leaf-requires-clause-decodes : goal.viewed-leaf-requires-clause-decodes
viewed-leaf-requires-clause-decodes g c =
    leaf-decodes g.K.Key c.args.key.now (g.S.Nodes.nodes c.args.nodes.now) (g.S.Nodes.nodes c.set_edge.new.nodes) c.requires.some c.in_ok-n.n c.in_ok-n.ensures.leaf c.in_ok-n.ensures.set

pub store_replaced-requires-clause-within : goal.store_replaced-requires-clause-within
store_replaced-requires-clause-within g c =
    leaf-within g.K.Key c.args.key.now (g.S.Nodes.nodes c.args.nodes.now) (g.S.Nodes.nodes c.set_edge.new.nodes) c.requires.some c.in_ok-n.n c.in_ok-n.ensures.leaf c.in_ok-n.ensures.set

pub store_replaced-requires-clause-place : goal.store_replaced-requires-clause-place
store_replaced-requires-clause-place g c =
    least-some g.K.Key g.met.K.Key.total c.args.key.now c.args.body.now (g.S.Nodes.nodes c.args.nodes.now) (g.S.Nodes.nodes c.set_edge.new.nodes) c.requires.sound c.requires.some c.requires.below c.in_ok-n.ensures.set c.in_ok-n.n
    c.in_ok-n.ensures.leaf c.viewed-leaf.result c.viewed-leaf.ensures.node

pub store_replaced-requires-clause-fits : goal.store_replaced-requires-clause-fits
store_replaced-requires-clause-fits g c =
    let old = g.S.Nodes.nodes c.args.nodes.now in
    let mid = g.S.Nodes.nodes c.set_edge.new.nodes in
    least-fits g.K.Key c.viewed-leaf.result c.in_ok-made.made.items
    (least-some g.K.Key g.met.K.Key.total c.args.key.now c.args.body.now old mid c.requires.sound c.requires.some c.requires.below c.in_ok-n.ensures.set c.in_ok-n.n c.in_ok-n.ensures.leaf c.viewed-leaf.result c.viewed-leaf.ensures.node)
    (least-whole g.K.Key g.met.K.Key.total c.args.key.now c.args.body.now old mid c.requires.sound c.requires.some c.requires.below c.in_ok-n.ensures.set c.in_ok-n.n c.in_ok-n.ensures.leaf c.viewed-leaf.result c.viewed-leaf.ensures.node)
    c.in_ok-made.ensures.leaf c.requires.even c.viewed-leaf.ensures.fits

pub returns-clause-lower : goal.returns-clause-lower
returns-clause-lower g c =
    on-ok _ _ c.store_replaced.result
    (λ stored. lower-least g.K.Key g.met.K.Key.total c.args.key.now c.args.body.now (g.S.Nodes.nodes c.args.nodes.now) (g.S.Nodes.nodes c.set_edge.new.nodes) c.requires.sound c.requires.some c.requires.below c.in_ok-n.ensures.set
    c.in_ok-n.n c.in_ok-n.ensures.leaf c.viewed-leaf.result c.viewed-leaf.ensures.node c.in_ok-made.made.items c.in_ok-made.ensures.leaf c.in_ok-made.ensures.key c.in_ok-made.ensures.body (g.S.Nodes.nodes c.store_replaced.new.nodes) stored)
    c.store_replaced.ensures.stored
