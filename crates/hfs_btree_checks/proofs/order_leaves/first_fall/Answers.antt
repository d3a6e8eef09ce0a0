use Rattle.std.proofs.Common.{ap, sym, arith}
use Rattle.hfs_btree.specs.declared.header.Header.{Header}
use Rattle.hfs_btree_checks.proofs.LeafOrder.{rising-none, rising-end, leaves-end, rising-within, rising-entries, rising-found, place-within, leaf-found, rising-some, rising-few, rising-next}
use Rattle.hfs_btree_checks.proofs.order_leaves.first_fall.Goals as goal

pub loop-n-init : goal.loop-n-init
loop-n-init g c = rising-none g.K.Key (g.N.Nodes.nodes c.args.nodes.now) c.requires.structure g.met.K.Key.total c.read_header-header.result c.read_header-header.ensures

pub read-requires : goal.read-requires
read-requires g c = rising-within g.K.Key (g.N.Nodes.nodes c.args.nodes.now) c.requires.structure _ _ _ c.loop-n.invariant c.loop-n-test.true

pub fall_in-requires : goal.fall_in-requires
fall_in-requires g c = rising-entries g.K.Key (g.N.Nodes.nodes c.args.nodes.now) c.requires.structure _ _ _ c.loop-n.invariant c.loop-n-test.true c.read.new.into c.read.ensures

pub overflow_add-result : goal.overflow_add-result
overflow_add-result g c =
    let nodes = g.N.Nodes.nodes c.args.nodes.now in
    let most = ap (λ (h : Header). h.records) c.read_header-header.ensures in
    let few = rising-few g.K.Key nodes c.requires.structure _ _ _ c.loop-n.invariant c.loop-n-test.true c.read.new.into c.read.ensures c.requires.counts in
    let within = place-within g.K.Key nodes c.requires.structure _ _ _ c.loop-n.invariant c.loop-n-test.true c.read.new.into c.read.ensures c.in-Some.place c.in-Some.ensures.fall in
    omega arith

pub returns-in-Some-clause-number : goal.returns-in-Some-clause-number
returns-in-Some-clause-number g c =
    rising-found g.K.Key (g.N.Nodes.nodes c.args.nodes.now) c.requires.structure _ _ _ c.loop-n.invariant c.loop-n-test.true c.read.new.into c.read.ensures c.in-Some.place c.in-Some.ensures.fall

pub returns-in-Some-clause-leaf : goal.returns-in-Some-clause-leaf
returns-in-Some-clause-leaf g c =
    leaf-found g.K.Key (g.N.Nodes.nodes c.args.nodes.now) c.requires.structure _ _ _ c.loop-n.invariant c.loop-n-test.true c.read.new.into c.read.ensures c.in-Some.place c.in-Some.ensures.fall

pub overflow_add-before : goal.overflow_add-before
overflow_add-before g c =
    let most = ap (λ (h : Header). h.records) c.read_header-header.ensures in
    let few = rising-few g.K.Key (g.N.Nodes.nodes c.args.nodes.now) c.requires.structure _ _ _ c.loop-n.invariant c.loop-n-test.true c.read.new.into c.read.ensures c.requires.counts in
    omega arith

pub loop-n-smaller : goal.loop-n-smaller
loop-n-smaller g c =
    let nodes = g.N.Nodes.nodes c.args.nodes.now in
    let few = rising-few g.K.Key nodes c.requires.structure _ _ _ c.loop-n.invariant c.loop-n-test.true c.read.new.into c.read.ensures c.requires.counts in
    let some = rising-some g.K.Key nodes c.requires.structure _ _ _ c.loop-n.invariant c.loop-n-test.true c.read.new.into c.read.ensures in
    omega arith

pub loop-n-preserved : goal.loop-n-preserved
loop-n-preserved g c =
    let nodes = g.N.Nodes.nodes c.args.nodes.now in
    let next = rising-next g.K.Key nodes c.requires.structure _ _ _ c.loop-n.invariant c.loop-n-test.true c.read.new.into c.read.ensures c.in_default.ensures.fall in
    rw (c.forward_in-n.ensures, c.count_in-before.ensures, c.in_default.ensures.last) next

pub returns-clause-number : goal.returns-clause-number
returns-clause-number g c = sym (rising-end g.K.Key (g.N.Nodes.nodes c.args.nodes.now) c.requires.structure _ _ _ c.loop-n.invariant c.loop-n-test.false)

pub returns-clause-leaf : goal.returns-clause-leaf
returns-clause-leaf g c = sym (leaves-end g.K.Key (g.N.Nodes.nodes c.args.nodes.now) c.requires.structure _ _ _ c.loop-n.invariant c.loop-n-test.false)
