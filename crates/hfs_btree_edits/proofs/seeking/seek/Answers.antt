-- The leaf where the search for the key ends has the record, where the tree has it.
use Rattle.std.proofs.Common.{◌≡◌, true, [], ◌∙◌, sym}
use Rattle.hfs_fields.proofs.ElementLemmas.{each-at}
use Rattle.hfs_btree.specs.Node.{node_of}
use Rattle.hfs_btree.specs.Tree.{records_of}
use Rattle.hfs_btree.proofs.FoundLemmas.{some-levels, found-entries, found-body}
use Rattle.hfs_btree_edits.proofs.seeking.seek.Goals as goal

pub seek_in-requires : goal.seek_in-requires
seek_in-requires g c =
    let nodes = g.N.Nodes.nodes c.args.nodes.now in
    found-entries g.K.Key g.met.K.Key.total nodes c.args.key.now c.requires (some-levels c.read_header-header.result nodes c.read_header-header.ensures c.if-header-eq0.false)
    c.descend-leaf.result c.descend-leaf.ensures.leaf c.descend-leaf.new.bytes c.descend-leaf.ensures.bytes

pub returns-in-Some : goal.returns-in-Some
returns-in-Some g c =
    let nodes = g.N.Nodes.nodes c.args.nodes.now in
    let some = some-levels c.read_header-header.result nodes c.read_header-header.ensures c.if-header-eq0.false in
    let entries = found-entries g.K.Key g.met.K.Key.total nodes c.args.key.now c.requires some c.descend-leaf.result c.descend-leaf.ensures.leaf c.descend-leaf.new.bytes c.descend-leaf.ensures.bytes in
    record {
      leaf = c.descend-leaf.ensures.leaf;
      read = c.descend-leaf.ensures.bytes;
      within = c.in-Some.ensures.within;
      equal = c.in-Some.ensures.equal;
      body = c.in-Some.ensures.body;
      is_leaf = each-at (λ e. g.K.Key.is_leaf e ≡ true) (records_of (node_of c.descend-leaf.new.bytes)) c.in-Some.at [] entries c.in-Some.ensures.within;
      found =
          sym (found-body g.K.Key g.met.K.Key.total nodes c.args.key.now c.requires some c.descend-leaf.result c.descend-leaf.ensures.leaf c.descend-leaf.new.bytes c.descend-leaf.ensures.bytes)
          ∙ c.in-Some.ensures.body;
    }

pub returns-in-None : goal.returns-in-None
returns-in-None g c =
    let nodes = g.N.Nodes.nodes c.args.nodes.now in
    let some = some-levels c.read_header-header.result nodes c.read_header-header.ensures c.if-header-eq0.false in
    sym (found-body g.K.Key g.met.K.Key.total nodes c.args.key.now c.requires some c.descend-leaf.result c.descend-leaf.ensures.leaf c.descend-leaf.new.bytes c.descend-leaf.ensures.bytes)
    ∙ c.in-None.ensures.none
