use Rattle.std.proofs.Common.{◌≡◌, ◌-◌, ap, sym, ◌∙◌, subst, arith}
use Rattle.hfs_btree.specs.declared.header.Header.{Header}
use Rattle.hfs_btree_edits.specs.Edits.{node_for}
use Rattle.hfs_btree_insertion.proofs.WayTo.{IsAt, at-root, at-within, read-some, read-index, read-next}
use Rattle.hfs_btree_insertion.proofs.way.node_at.Goals as goal

pub read-requires : goal.read-requires
read-requires g c =
    let nodes = g.N.Nodes.nodes c.args.nodes.now in
    let some = c.requires.some in
    rw c.requires.header (at-within g.K.Key nodes c.args.key.now _ _ (at-root g.K.Key nodes c.args.key.now c.requires.sound.structure (omega (arith, some))))

pub loop-here-init : goal.loop-here-init
loop-here-init g c =
    let nodes = g.N.Nodes.nodes c.args.nodes.now in
    let W : Header → Type 0 = λ h. IsAt g.K.Key nodes c.args.key.now (h.depth - 1) h.root in
    let deep = ap (λ (h : Header). h.depth) c.requires.header in
    let some = c.requires.some in
    record {
      at = subst W (sym c.requires.header) (at-root g.K.Key nodes c.args.key.now c.requires.sound.structure (omega (arith, some)));
      low = omega (arith, deep, some);
      bytes = c.read.ensures;
    }

pub child_in-n-requires-clause-some : goal.child_in-n-requires-clause-some
child_in-n-requires-clause-some g c = read-some g.K.Key (g.N.Nodes.nodes c.args.nodes.now) c.args.key.now _ _ _ c.loop-here.invariant.at c.loop-here.invariant.bytes

pub child_in-n-requires-clause-whole : goal.child_in-n-requires-clause-whole
child_in-n-requires-clause-whole g c =
    let more = c.loop-here-test.true in
    read-index g.K.Key (g.N.Nodes.nodes c.args.nodes.now) c.args.key.now _ _ _ (omega (arith, more)) c.loop-here.invariant.at c.loop-here.invariant.bytes

pub read-requires-in-loop-here : goal.read-requires-in-loop-here
read-requires-in-loop-here g c =
    let more = c.loop-here-test.true in
    at-within g.K.Key (g.N.Nodes.nodes c.args.nodes.now) c.args.key.now _ _
    (read-next g.K.Key (g.N.Nodes.nodes c.args.nodes.now) c.args.key.now _ _ _ _ (omega (arith, more)) c.loop-here.invariant.at c.loop-here.invariant.bytes c.child_in-n.ensures)

pub loop-here-preserved : goal.loop-here-preserved
loop-here-preserved g c =
    let more = c.loop-here-test.true in
    record {
      at = read-next g.K.Key (g.N.Nodes.nodes c.args.nodes.now) c.args.key.now _ _ _ _ (omega (arith, more)) c.loop-here.invariant.at c.loop-here.invariant.bytes c.child_in-n.ensures;
      low = omega (arith, more);
      bytes = c.read-in-loop-here.ensures;
    }

pub returns-clause-node : goal.returns-clause-node
returns-clause-node g c =
    let nodes = g.N.Nodes.nodes c.args.nodes.now in
    let low = c.loop-here.invariant.low in
    let done = c.loop-here-test.false in
    let same : c.loop-here.here ≡ c.args.above = omega (arith, low, done) in
    c.loop-here.invariant.at.is ∙ ap (node_for g.K.Key nodes c.args.key.now) same
