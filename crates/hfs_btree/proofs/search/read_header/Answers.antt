use Rattle.std.proofs.Common.{◌≡◌, ℕ, ◌<◌, ◌≤◌, List, [], ◌∷◌, length, get_or, arith, ap, sym, ◌∙◌}
use Rattle.std.specs.Prelude.{Ok, Err}
use Rattle.hfs_btree.specs.Tree.{records_in, records_of, node_in}
use Rattle.hfs_btree.specs.Header.{header_of}
use Rattle.hfs_btree.proofs.DecodedLemmas.{records-within, read-in, error-empty}
use Rattle.hfs_btree.proofs.search.read_header.Goals as goal

some-of : (es : List (List ℕ)) → 30 ≤ length (get_or es 0 []) → 0 < length es
some-of [] h = absurd (omega arith)
some-of (e ∷ es) h = omega arith

pub read-requires : goal.read-requires
read-requires g c = records-within (g.N.Nodes.nodes c.args.nodes.now) 0 (some-of _ c.requires)

pub record-requires : goal.record-requires
record-requires g c =
    let nodes = g.N.Nodes.nodes c.args.nodes.now in
    let same : c.in-Ok.node.records ≡ records_in nodes 0 = ap records_of (read-in nodes 0 c.read.new.into (Ok c.in-Ok.node) c.read.ensures c.in-Ok.ensures.node) in
    let some = some-of (records_in nodes 0) c.requires in
    rw same some

pub read-requires-in-Ok : goal.read-requires-in-Ok
read-requires-in-Ok g c =
    let nodes = g.N.Nodes.nodes c.args.nodes.now in
    let same : c.in-Ok.node.records ≡ records_in nodes 0 = ap records_of (read-in nodes 0 c.read.new.into (Ok c.in-Ok.node) c.read.ensures c.in-Ok.ensures.node) in
    rw (c.record.ensures.bytes, same) c.requires

pub unreachable-requires : goal.unreachable-requires
unreachable-requires g c =
    let nodes = g.N.Nodes.nodes c.args.nodes.now in
    let none = error-empty (node_in nodes 0) c.in-Err.field-0 (read-in nodes 0 c.read.new.into (Err c.in-Err.field-0) c.read.ensures (sym c.in-Err.is ∙ c.view.ensures.node)) in
    let some = some-of (records_in nodes 0) c.requires in
    omega (arith, none, some)

pub returns : goal.returns
returns g c =
    let nodes = g.N.Nodes.nodes c.args.nodes.now in
    let same : c.in-Ok.node.records ≡ records_in nodes 0 = ap records_of (read-in nodes 0 c.read.new.into (Ok c.in-Ok.node) c.read.ensures c.in-Ok.ensures.node) in
    c.read-in-Ok.ensures ∙ ap header_of (c.record.ensures.bytes ∙ ap (λ (es : List (List ℕ)). get_or es 0 []) same)
