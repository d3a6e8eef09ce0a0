use Rattle.std.proofs.Common.{◌∙◌, ap, ℕ, List, length, refl}
use Rattle.hfs_btree_edits.proofs.StoreLemmas.{fits-set, on-ok}
use Rattle.hfs_btree_edits.proofs.MapWalkLemmas.{bit-within, bit-decodes, bit-some, bit-put}
use Rattle.hfs_btree_edits.proofs.map_bit.put_bit.Goals as goal

pub read-requires : goal.read-requires
read-requires g c = bit-within (g.S.Nodes.nodes c.args.nodes.now) c.args.at.node c.args.at.entry c.args.at.bit c.requires

pub viewed-node-requires-clause-decodes : goal.viewed-node-requires-clause-decodes
viewed-node-requires-clause-decodes g c = bit-decodes (g.S.Nodes.nodes c.args.nodes.now) c.args.at.node c.args.at.entry c.args.at.bit c.requires

pub record-requires : goal.record-requires
record-requires g c =
    bit-some (g.S.Nodes.nodes c.args.nodes.now) c.args.at.node c.args.at.entry c.args.at.bit c.viewed-node.result c.viewed-node.ensures.node c.requires

pub store_replaced-requires-clause-within : goal.store_replaced-requires-clause-within
store_replaced-requires-clause-within g c = bit-within (g.S.Nodes.nodes c.args.nodes.now) c.args.at.node c.args.at.entry c.args.at.bit c.requires

pub store_replaced-requires-clause-place : goal.store_replaced-requires-clause-place
store_replaced-requires-clause-place g c =
    bit-some (g.S.Nodes.nodes c.args.nodes.now) c.args.at.node c.args.at.entry c.args.at.bit c.viewed-node.result c.viewed-node.ensures.node c.requires

pub store_replaced-requires-clause-fits : goal.store_replaced-requires-clause-fits
store_replaced-requires-clause-fits g c =
    let some = bit-some (g.S.Nodes.nodes c.args.nodes.now) c.args.at.node c.args.at.entry c.args.at.bit c.viewed-node.result c.viewed-node.ensures.node c.requires in
    fits-set c.viewed-node.result.records c.args.at.entry c.in_ok-part.part.items some
    (c.in_ok-part.ensures.length ∙ ap (λ (bs : List ℕ). length bs) c.record.ensures.bytes) c.viewed-node.ensures.fits

pub returns-clause-put : goal.returns-clause-put
returns-clause-put g c =
    let some = bit-some (g.S.Nodes.nodes c.args.nodes.now) c.args.at.node c.args.at.entry c.args.at.bit c.viewed-node.result c.viewed-node.ensures.node c.requires in
    on-ok _ _ c.store_replaced.result
    (λ stored. bit-put c.args.at.node c.args.at.entry c.args.at.bit c.args.value c.viewed-node.result c.in_ok-part.part.items _ _ _ _ c.viewed-node.ensures.node some refl
    c.record.ensures.bytes c.in_ok-part.ensures.length c.in_ok-part.ensures.here c.in_ok-part.ensures.others stored)
    c.store_replaced.ensures.stored
