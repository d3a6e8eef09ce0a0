use Rattle.std.proofs.Common.{◌∙◌, ap, sym}
use Rattle.hfs_btree.specs.Pairs.{pairs_from}
use Rattle.hfs_btree.proofs.DescentLemmas.{content-none}
use Rattle.hfs_btree.proofs.FoundLemmas.{some-levels, found-entries}
use Rattle.hfs_btree.proofs.Walks.{start-at, start-same}
use Rattle.hfs_btree.proofs.walk.Walk.from.Goals as goal

pub returns-then-header-eq0 : goal.returns-then-header-eq0
returns-then-header-eq0 g c =
    let nodes = g.N.Nodes.nodes c.args.nodes.now in
    c.ended.ensures ∙ sym (ap (pairs_from g.K.Key.compare c.args.key.now) (content-none g.K.Key nodes (sym (ap (λ h. h.depth) c.read_header-header.ensures) ∙ c.if-header-eq0.true)))

pub place_in-first-requires : goal.place_in-first-requires
place_in-first-requires g c =
    let nodes = g.N.Nodes.nodes c.args.nodes.now in
    found-entries g.K.Key g.met.K.Key.total nodes c.args.key.now c.requires (some-levels c.read_header-header.result nodes c.read_header-header.ensures c.if-header-eq0.false)
    c.descend.result c.descend.ensures.leaf c.descend.new.bytes c.descend.ensures.bytes

pub settle-place-requires-clause-at : goal.settle-place-requires-clause-at
settle-place-requires-clause-at g c =
    let nodes = g.N.Nodes.nodes c.args.nodes.now in
    start-at g.K.Key nodes c.requires g.met.K.Key.total c.args.key.now (some-levels c.read_header-header.result nodes c.read_header-header.ensures c.if-header-eq0.false)
    c.descend.result c.descend.ensures.leaf c.descend.new.bytes c.descend.ensures.bytes c.read_header-header.result c.read_header-header.ensures c.place_in-first.result c.place_in-first.ensures.within

pub returns : goal.returns
returns g c =
    let nodes = g.N.Nodes.nodes c.args.nodes.now in
    c.settle-place.ensures.same
    ∙ start-same g.K.Key nodes c.requires g.met.K.Key.total c.args.key.now (some-levels c.read_header-header.result nodes c.read_header-header.ensures c.if-header-eq0.false)
    c.descend.result c.descend.ensures.leaf c.descend.new.bytes c.descend.ensures.bytes c.read_header-header.result c.read_header-header.ensures c.place_in-first.result c.place_in-first.ensures.within c.place_in-first.ensures.from
