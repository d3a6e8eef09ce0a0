use Rattle.std.proofs.Common.{refl, ap, ℕ, ◌*◌, ◌-◌, List, length, arith}
use Rattle.hfs_btree_edits.proofs.MapWalkLemmas.{first-part, next-part, part-within, part-read, forward-read, placed-in}
use Rattle.hfs_btree_edits.proofs.FullMapLemmas.{last-past}
use Rattle.hfs_btree_edits.proofs.map_bit.bit_of_node.Goals as goal

pub loop-before-init : goal.loop-before-init
loop-before-init g c = record { part = first-part (g.N.Nodes.nodes c.args.nodes.now) c.args.count c.requires.counted; low = omega arith }

pub read-requires : goal.read-requires
read-requires g c = part-within (g.N.Nodes.nodes c.args.nodes.now) _ _ _ _ c.requires.some c.requires.map c.loop-before.invariant.part

pub returns-then-n-before-clause-place : goal.returns-then-n-before-clause-place
returns-then-n-before-clause-place g c =
    let low = c.loop-before.invariant.low in
    let is = part-read (g.N.Nodes.nodes c.args.nodes.now) _ _ _ _ _ _ c.loop-before.invariant.part c.read.ensures c.part_of.ensures.part in
    placed-in (g.N.Nodes.nodes c.args.nodes.now) c.loop-before.most c.loop-before.node c.loop-before.entry c.loop-before.before (c.args.n - c.loop-before.before) c.args.n c.part_of.result.now c.loop-before.invariant.part is
    (omega (arith, low, c.if-n-before.true)) (omega (arith, low))

pub loop-before-preserved : goal.loop-before-preserved
loop-before-preserved g c =
    let is = part-read (g.N.Nodes.nodes c.args.nodes.now) _ _ _ _ _ _ c.loop-before.invariant.part c.read.ensures c.part_of.ensures.part in
    let next = forward-read (g.N.Nodes.nodes c.args.nodes.now) c.loop-before.node _ c.forward_in-node.result c.read.ensures c.forward_in-node.ensures in
    let some = c.if-most-eq0.false in
    record {
      part = next-part (g.N.Nodes.nodes c.args.nodes.now) c.loop-before.most (c.loop-before.most - 1) c.loop-before.node c.loop-before.entry c.loop-before.before c.forward_in-node.result _ c.loop-before.invariant.part next
          c.if-node-eq0.false (omega arith) (ap (λ (bs : List ℕ). 8 * length bs) is);
      low = let past = c.if-n-before.false in omega arith;
    }

pub returns-then-node-eq0-clause-none : goal.returns-then-node-eq0-clause-none
returns-then-node-eq0-clause-none g c =
    let nodes = g.N.Nodes.nodes c.args.nodes.now in
    let i = c.loop-before.invariant in
    let is = part-read nodes _ _ _ _ _ _ i.part c.read.ensures c.part_of.ensures.part in
    let next = forward-read nodes c.loop-before.node _ c.forward_in-node.result c.read.ensures c.forward_in-node.ensures in
    let past = last-past nodes c.loop-before.most c.loop-before.node c.loop-before.entry c.loop-before.before i.part c.part_of.result.now is c.args.count c.forward_in-node.result _ c.requires.map c.requires.counted next refl
    c.then-node-eq0.either in
    let beyond = c.if-n-before.false in
    omega (arith, past, beyond)
