use Rattle.std.proofs.Common.{◌∙◌, sym}
use Rattle.hfs_btree.proofs.Walks.{whole-none, whole-within, whole-walk, whole-same}
use Rattle.hfs_btree.proofs.walk.Walk.whole.Goals as goal

pub returns-then-header-eq0 : goal.returns-then-header-eq0
returns-then-header-eq0 g c =
    let nodes = g.N.Nodes.nodes c.args.nodes.now in
    c.ended.ensures ∙ sym (whole-none g.K.Key nodes c.requires.structure c.read_header-header.result c.read_header-header.ensures c.if-header-eq0.true)

pub read-requires : goal.read-requires
read-requires g c = whole-within g.K.Key (g.N.Nodes.nodes c.args.nodes.now) c.requires.structure c.read_header-header.result c.read_header-header.ensures c.if-header-eq0.false

pub invariant_of-result : goal.invariant_of-result
invariant_of-result g c =
    whole-walk g.K.Key (g.N.Nodes.nodes c.args.nodes.now) c.requires.structure c.read_header-header.result c.read_header-header.ensures c.if-header-eq0.false c.requires.counts c.read.new.into c.read.ensures

pub returns : goal.returns
returns g c =
    whole-same g.K.Key (g.N.Nodes.nodes c.args.nodes.now) c.requires.structure c.read_header-header.result c.read_header-header.ensures c.if-header-eq0.false c.requires.counts c.read.new.into c.read.ensures
