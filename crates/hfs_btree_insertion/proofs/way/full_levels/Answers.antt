use Rattle.std.proofs.Common.{◌-◌, sym, subst, arith}
use Rattle.hfs_btree.specs.declared.header.Header.{Header}
use Rattle.hfs_btree_insertion.proofs.WayTo.{IsAt, IsCounted, at-root, at-within, read-some, read-index, read-next, counted-init, counted-next, counted-leaf}
use Rattle.hfs_btree_insertion.proofs.way.full_levels.Goals as goal

pub read-requires : goal.read-requires
read-requires g c =
    let nodes = g.N.Nodes.nodes c.args.nodes.now in
    rw c.requires.header (at-within g.K.Key nodes c.args.key.now _ _ (at-root g.K.Key nodes c.args.key.now c.requires.sound.structure c.requires.some))

pub loop-here-init : goal.loop-here-init
loop-here-init g c =
    let nodes = g.N.Nodes.nodes c.args.nodes.now in
    let W : Header → Type 0 = λ h. IsAt g.K.Key nodes c.args.key.now (h.depth - 1) h.root in
    let C : Header → Type 0 = λ h. IsCounted g.K.Key nodes c.args.key.now (h.depth - 1) 0 in
    record {
      at = subst W (sym c.requires.header) (at-root g.K.Key nodes c.args.key.now c.requires.sound.structure c.requires.some);
      counted = subst C (sym c.requires.header) (counted-init g.K.Key nodes c.args.key.now c.requires.some);
      bytes = c.read.ensures;
    }

pub child_in-n-requires-clause-some : goal.child_in-n-requires-clause-some
child_in-n-requires-clause-some g c = read-some g.K.Key (g.N.Nodes.nodes c.args.nodes.now) c.args.key.now _ _ _ c.loop-here.invariant.at c.loop-here.invariant.bytes

pub child_in-n-requires-clause-whole : goal.child_in-n-requires-clause-whole
child_in-n-requires-clause-whole g c =
    read-index g.K.Key (g.N.Nodes.nodes c.args.nodes.now) c.args.key.now _ _ _ c.loop-here-test.true c.loop-here.invariant.at c.loop-here.invariant.bytes

pub read-requires-in-loop-here : goal.read-requires-in-loop-here
read-requires-in-loop-here g c =
    at-within g.K.Key (g.N.Nodes.nodes c.args.nodes.now) c.args.key.now _ _
    (read-next g.K.Key (g.N.Nodes.nodes c.args.nodes.now) c.args.key.now _ _ _ _ c.loop-here-test.true c.loop-here.invariant.at c.loop-here.invariant.bytes c.child_in-n.ensures)

pub loop-here-preserved : goal.loop-here-preserved
loop-here-preserved g c =
    let nodes = g.N.Nodes.nodes c.args.nodes.now in
    record {
      at = read-next g.K.Key nodes c.args.key.now _ _ _ _ c.loop-here-test.true c.loop-here.invariant.at c.loop-here.invariant.bytes c.child_in-n.ensures;
      counted = counted-next g.K.Key nodes c.args.key.now c.loop-here.here c.loop-here.n c.loop-here.full c.count_full-full.result c.INDEX_KEY_LEN.result c.loop-here.bytes c.INDEX_KEY_LEN.ensures c.loop-here-test.true
          c.loop-here.invariant.at c.loop-here.invariant.bytes c.count_full-full.ensures.full c.count_full-full.ensures.room c.loop-here.invariant.counted;
      bytes = c.read-in-loop-here.ensures;
    }

pub returns : goal.returns
returns g c =
    let nodes = g.N.Nodes.nodes c.args.nodes.now in
    let done = c.loop-here-test.false in
    counted-leaf g.K.Key nodes c.args.key.now c.loop-here.here c.loop-here.n c.loop-here.full c.count_full.result c.args.len c.loop-here.bytes (omega (arith, done))
    c.loop-here.invariant.at c.loop-here.invariant.bytes c.count_full.ensures.full c.count_full.ensures.room c.loop-here.invariant.counted
