-- The leaf where the search ends has the key's body, if the tree has.
use Rattle.std.proofs.Common.{◌∙◌, ap, get_or, [], ℕ}
use Rattle.std.specs.Prelude.{Some}
use Rattle.hfs_btree.proofs.FoundLemmas.{some-levels, found-entries, found-body}
use Rattle.hfs_btree.proofs.near.find_anew.Goals as goal

pub body_in-requires : goal.body_in-requires
body_in-requires g c =
    let nodes = g.N.Nodes.nodes c.args.nodes.now in
    found-entries g.K.Key g.met.K.Key.total nodes c.args.key.now c.requires.sound (some-levels c.read_header-header.result nodes c.read_header-header.ensures c.if-header-eq0.false)
    c.descend.result c.descend.ensures.leaf c.descend.new.bytes c.descend.ensures.bytes

pub returns-in_ok-from_slice-in-Some-clause-found : goal.returns-in_ok-from_slice-in-Some-clause-found
returns-in_ok-from_slice-in-Some-clause-found g c =
    let nodes = g.N.Nodes.nodes c.args.nodes.now in
    ap Some c.in_ok-from_slice-in-Some.ensures.items
    ∙ c.in-Some.ensures
    ∙ found-body g.K.Key g.met.K.Key.total nodes c.args.key.now c.requires.sound (some-levels c.read_header-header.result nodes c.read_header-header.ensures c.if-header-eq0.false)
    c.descend.result c.descend.ensures.leaf c.descend.new.bytes c.descend.ensures.bytes

pub returns-in-None-clause-found : goal.returns-in-None-clause-found
returns-in-None-clause-found g c =
    let nodes = g.N.Nodes.nodes c.args.nodes.now in
    c.in-None.ensures
    ∙ found-body g.K.Key g.met.K.Key.total nodes c.args.key.now c.requires.sound (some-levels c.read_header-header.result nodes c.read_header-header.ensures c.if-header-eq0.false)
    c.descend.result c.descend.ensures.leaf c.descend.new.bytes c.descend.ensures.bytes

pub returns-in_ok-from_slice-in-Some-clause-last : goal.returns-in_ok-from_slice-in-Some-clause-last
returns-in_ok-from_slice-in-Some-clause-last g c =
    let nodes = g.N.Nodes.nodes c.args.nodes.now in
    record {
      some = λ read. some-levels c.read_header-header.result nodes c.read_header-header.ensures c.if-header-eq0.false;
      other = λ read. (c.args.key.now, c.descend.ensures.bytes ∙ ap (λ (n : ℕ). get_or nodes n []) c.descend.ensures.leaf);
    }

pub returns-in-None-clause-last : goal.returns-in-None-clause-last
returns-in-None-clause-last g c =
    let nodes = g.N.Nodes.nodes c.args.nodes.now in
    record {
      some = λ read. some-levels c.read_header-header.result nodes c.read_header-header.ensures c.if-header-eq0.false;
      other = λ read. (c.args.key.now, c.descend.ensures.bytes ∙ ap (λ (n : ℕ). get_or nodes n []) c.descend.ensures.leaf);
    }
