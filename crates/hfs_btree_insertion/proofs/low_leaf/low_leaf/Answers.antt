use Rattle.std.proofs.Common.{◌-◌, sym, subst, arith, ap}
use Rattle.hfs_btree.specs.declared.header.Header.{Header}
use Rattle.hfs_btree_insertion.proofs.LowLeaves.{low-none, low-next, low-at}
use Rattle.hfs_btree.proofs.RisingWays.{IsOnRisingWay, rising-root, rising-next, rising-read}
use Rattle.hfs_btree_insertion.proofs.WayTo.{IsAt, at-root, at-within, read-index, read-next}
use Rattle.hfs_btree_insertion.proofs.low_leaf.low_leaf.Goals as goal

pub read-requires : goal.read-requires
read-requires g c =
    let nodes = g.N.Nodes.nodes c.args.nodes.now in
    rw c.requires.header (at-within g.K.Key nodes c.args.key.now _ _ (at-root g.K.Key nodes c.args.key.now c.requires.sound.structure c.requires.some))

pub loop-here-init : goal.loop-here-init
loop-here-init g c =
    let nodes = g.N.Nodes.nodes c.args.nodes.now in
    let W : Header → Type 0 = λ h. IsAt g.K.Key nodes c.args.key.now (h.depth - 1) h.root in
    let R : Header → Type 0 = λ h. IsOnRisingWay g.K.Key nodes (h.depth - 1) h.root in
    let deep = ap (λ (h : Header). h.depth) c.requires.header in
    record {
      at = subst W (sym c.requires.header) (at-root g.K.Key nodes c.args.key.now c.requires.sound.structure c.requires.some);
      rising = subst R (sym c.requires.header) (rising-root g.K.Key nodes c.requires.sound c.requires.some);
      low = low-none g.K.Key nodes c.args.key.now _ (omega (arith, deep));
      bytes = c.read.ensures;
    }

pub low_child-requires-clause-index : goal.low_child-requires-clause-index
low_child-requires-clause-index g c =
    read-index g.K.Key (g.N.Nodes.nodes c.args.nodes.now) c.args.key.now _ _ _ c.loop-here-test.true c.loop-here.invariant.at c.loop-here.invariant.bytes

pub read-requires-in-loop-here : goal.read-requires-in-loop-here
read-requires-in-loop-here g c =
    at-within g.K.Key (g.N.Nodes.nodes c.args.nodes.now) c.args.key.now _ _
    (read-next g.K.Key (g.N.Nodes.nodes c.args.nodes.now) c.args.key.now _ _ _ _ c.loop-here-test.true c.loop-here.invariant.at c.loop-here.invariant.bytes c.in-Some.ensures.child)

pub loop-here-preserved : goal.loop-here-preserved
loop-here-preserved g c =
    let nodes = g.N.Nodes.nodes c.args.nodes.now in
    let i = c.loop-here.invariant in
    record {
      at = read-next g.K.Key nodes c.args.key.now _ _ _ _ c.loop-here-test.true i.at i.bytes c.in-Some.ensures.child;
      rising = rising-next g.K.Key nodes c.args.key.now _ _ _ _ c.loop-here-test.true i.rising i.bytes c.in-Some.ensures.child;
      low = low-next g.K.Key nodes c.args.key.now c.loop-here.here c.loop-here.n c.loop-here.bytes i.at i.bytes c.in-Some.ensures.low i.low;
      bytes = c.read-in-loop-here.ensures;
    }

pub returns-clause-low : goal.returns-clause-low
returns-clause-low g c =
    let done = c.loop-here-test.false in
    low-at g.K.Key (g.N.Nodes.nodes c.args.nodes.now) c.args.key.now c.loop-here.here c.loop-here.n (omega (arith, done)) c.loop-here.invariant.at c.loop-here.invariant.low

pub low_child-requires-clause-rising : goal.low_child-requires-clause-rising
low_child-requires-clause-rising g c =
    rising-read g.K.Key (g.N.Nodes.nodes c.args.nodes.now) g.met.K.Key.total c.args.key.now _ _ _ c.loop-here-test.true c.loop-here.invariant.rising c.loop-here.invariant.bytes
