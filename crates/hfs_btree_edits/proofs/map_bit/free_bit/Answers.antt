use Rattle.std.proofs.Common.{◌∙◌, ap, sym, refl, ℕ, ◌*◌, ◌-◌, List, length, arith}
use Rattle.hfs_btree.specs.Header.{bit_of}
use Rattle.hfs_btree_edits.proofs.MapWalkLemmas.{first-part, next-part, part-within, part-read, entry-read, forward-read, placed-in}
use Rattle.hfs_btree_edits.proofs.FullMapLemmas.{next-set, none-free, last-past, last-free}
use Rattle.hfs_btree_edits.proofs.map_bit.free_bit.Goals as goal

pub loop-before-init : goal.loop-before-init
loop-before-init g c = record {
  part = first-part (g.N.Nodes.nodes c.args.nodes.now) c.args.count c.requires.counted;
  full = λ k lt low. absurd (omega (arith, lt));
  low = omega arith;
}

pub read-requires : goal.read-requires
read-requires g c = part-within (g.N.Nodes.nodes c.args.nodes.now) _ _ _ _ c.requires.some c.requires.map c.loop-before.invariant.part

pub returns-in-Some-clause-place : goal.returns-in-Some-clause-place
returns-in-Some-clause-place g c =
    let is = part-read (g.N.Nodes.nodes c.args.nodes.now) _ _ _ _ _ _ c.loop-before.invariant.part c.read.ensures c.part_of-part.ensures.part in
    placed-in (g.N.Nodes.nodes c.args.nodes.now) c.loop-before.most c.loop-before.node c.loop-before.entry c.loop-before.before c.in-Some.bit _ c.part_of-part.result.now c.loop-before.invariant.part is
    c.in-Some.ensures.1 refl

pub returns-in-Some-clause-clear : goal.returns-in-Some-clause-clear
returns-in-Some-clause-clear g c =
    ap (λ (bs : List ℕ). bit_of bs c.in-Some.bit) (sym (entry-read (g.N.Nodes.nodes c.args.nodes.now) c.loop-before.node c.loop-before.entry _ _ c.read.ensures c.part_of-part.ensures.part)) ∙ c.in-Some.ensures.2

pub loop-before-preserved : goal.loop-before-preserved
loop-before-preserved g c =
    let is = part-read (g.N.Nodes.nodes c.args.nodes.now) _ _ _ _ _ _ c.loop-before.invariant.part c.read.ensures c.part_of-part.ensures.part in
    let next = forward-read (g.N.Nodes.nodes c.args.nodes.now) c.loop-before.node _ c.forward_in-node.result c.read.ensures c.forward_in-node.ensures in
    let some = c.if-most-eq0.false in
    record {
      part = next-part (g.N.Nodes.nodes c.args.nodes.now) c.loop-before.most (c.loop-before.most - 1) c.loop-before.node c.loop-before.entry c.loop-before.before c.forward_in-node.result _ c.loop-before.invariant.part next
          c.if-node-eq0.false (omega arith) (ap (λ (bs : List ℕ). 8 * length bs) is);
      full = next-set (g.N.Nodes.nodes c.args.nodes.now) c.loop-before.most c.loop-before.node c.loop-before.entry c.loop-before.before c.loop-before.invariant.part c.part_of-part.result.now is c.args.count
          c.loop-before.invariant.full c.in_default.ensures _ refl;
      low = let less = c.if-before-count.false in let short = c.part_of-part.ensures.short in omega arith;
    }

pub returns-then-before-count-clause-none : goal.returns-then-before-count-clause-none
returns-then-before-count-clause-none g c =
    none-free (g.N.Nodes.nodes c.args.nodes.now) c.loop-before.before c.args.count c.requires.counted c.loop-before.invariant.full c.if-before-count.true

pub returns-then-node-eq0-clause-none : goal.returns-then-node-eq0-clause-none
returns-then-node-eq0-clause-none g c =
    let nodes = g.N.Nodes.nodes c.args.nodes.now in
    let i = c.loop-before.invariant in
    let is = part-read nodes _ _ _ _ _ _ i.part c.read.ensures c.part_of-part.ensures.part in
    let next = forward-read nodes c.loop-before.node _ c.forward_in-node.result c.read.ensures c.forward_in-node.ensures in
    let past = last-past nodes c.loop-before.most c.loop-before.node c.loop-before.entry c.loop-before.before i.part c.part_of-part.result.now is c.args.count c.forward_in-node.result _ c.requires.map c.requires.counted next
    refl c.then-node-eq0.either in
    last-free nodes c.loop-before.most c.loop-before.node c.loop-before.entry c.loop-before.before i.part c.part_of-part.result.now is c.args.count i.full c.in_default.ensures _ refl c.requires.counted past
