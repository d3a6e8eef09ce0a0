use Rattle.std.proofs.Common.{◌∙◌, ap}
use Rattle.std.specs.Prelude.{Some}
use Rattle.hfs_btree.proofs.FoundLemmas.{some-levels, found-entries, found-body}
use Rattle.hfs_btree.proofs.search.find.Goals as goal

pub body_in-requires : goal.body_in-requires
body_in-requires g c =
    let nodes = g.N.Nodes.nodes c.args.nodes.now in
    found-entries g.K.Key g.met.K.Key.total nodes c.args.key.now c.requires (some-levels c.read_header-header.result nodes c.read_header-header.ensures c.if-header-eq0.false)
    c.descend.result c.descend.ensures.leaf c.descend.new.bytes c.descend.ensures.bytes

pub returns-in_ok-from_slice-in-Some : goal.returns-in_ok-from_slice-in-Some
returns-in_ok-from_slice-in-Some g c =
    let nodes = g.N.Nodes.nodes c.args.nodes.now in
    ap Some c.in_ok-from_slice-in-Some.ensures.items
    ∙ c.in-Some.ensures
    ∙ found-body g.K.Key g.met.K.Key.total nodes c.args.key.now c.requires (some-levels c.read_header-header.result nodes c.read_header-header.ensures c.if-header-eq0.false)
    c.descend.result c.descend.ensures.leaf c.descend.new.bytes c.descend.ensures.bytes

pub returns-in-None : goal.returns-in-None
returns-in-None g c =
    let nodes = g.N.Nodes.nodes c.args.nodes.now in
    c.in-None.ensures
    ∙ found-body g.K.Key g.met.K.Key.total nodes c.args.key.now c.requires (some-levels c.read_header-header.result nodes c.read_header-header.ensures c.if-header-eq0.false)
    c.descend.result c.descend.ensures.leaf c.descend.new.bytes c.descend.ensures.bytes
