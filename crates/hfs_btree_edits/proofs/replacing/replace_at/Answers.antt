use Rattle.std.proofs.Common.{◌<◌, ℕ, List, ap, arith, length, refl, subst}
use Rattle.std.specs.Prelude.{Result}
use Rattle.hfs_fields.proofs.OutcomeLemmas.{on_ok}
use Rattle.hfs_btree.specs.declared.fault.NodeFault.{NodeFault}
use Rattle.hfs_btree.specs.declared.node.Node.{Node}
use Rattle.hfs_btree.specs.Tree.{records_of}
use Rattle.hfs_btree.proofs.DecodedLemmas.{records-read, records-within}
use Rattle.hfs_btree_edits.proofs.DecodesLemmas.{decodes-some}
use Rattle.hfs_btree_edits.proofs.ReplacedLemmas.{replaced-fits, replaced-by}
use Rattle.hfs_btree_edits.proofs.replacing.replace_at.Goals as goal

pub viewed-leaf-requires-clause-decodes : goal.viewed-leaf-requires-clause-decodes
viewed-leaf-requires-clause-decodes g c =
    let nodes = g.N.Nodes.nodes c.args.nodes.now in
    let same = ap (λ (es : List (List ℕ)). length es) (records-read nodes c.args.place.now.leaf c.args.place.now.bytes c.requires.place.read) in
    let within = c.requires.place.within in
    decodes-some nodes c.args.place.now.leaf (omega (arith, same, within))

pub store_replaced-requires-clause-within : goal.store_replaced-requires-clause-within
store_replaced-requires-clause-within g c =
    let nodes = g.N.Nodes.nodes c.args.nodes.now in
    let same = ap (λ (es : List (List ℕ)). length es) (records-read nodes c.args.place.now.leaf c.args.place.now.bytes c.requires.place.read) in
    let within = c.requires.place.within in
    records-within nodes c.args.place.now.leaf (omega (arith, same, within))

pub store_replaced-requires-clause-place : goal.store_replaced-requires-clause-place
store_replaced-requires-clause-place g c =
    subst (λ (r : Result Node NodeFault). c.args.place.now.at < length (records_of r)) c.viewed-leaf.ensures.bytes c.requires.place.within

pub store_replaced-requires-clause-fits : goal.store_replaced-requires-clause-fits
store_replaced-requires-clause-fits g c =
    replaced-fits g.K.Key g.met.K.Key.total (g.N.Nodes.nodes c.args.nodes.now) c.requires.sound c.args.key.now c.args.body.now c.requires.there
    c.args.place.now.leaf c.requires.place.leaf c.args.place.now.bytes c.requires.place.read
    c.viewed-leaf.result c.viewed-leaf.ensures.bytes c.args.place.now.at c.requires.place.within c.requires.place.equal c.in_ok-made.made.items
    g.met.K.Key.head_least c.viewed-leaf.ensures.fits c.in_ok-made.ensures.written c.requires.place.body

pub returns-clause-replaced : goal.returns-clause-replaced
returns-clause-replaced g c =
    on_ok c.store_replaced.result _ _
    (replaced-by g.K.Key g.met.K.Key.total (g.N.Nodes.nodes c.args.nodes.now) c.requires.sound c.args.key.now c.args.body.now c.requires.there
    c.args.place.now.leaf c.requires.place.leaf c.args.place.now.bytes c.requires.place.read
    c.viewed-leaf.result c.viewed-leaf.ensures.bytes c.args.place.now.at c.requires.place.within c.requires.place.equal c.in_ok-made.made.items
    _ c.in_ok-made.ensures.leaf c.in_ok-made.ensures.key c.in_ok-made.ensures.body _ refl)
    c.store_replaced.ensures.stored
