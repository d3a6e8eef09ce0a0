use Rattle.std.proofs.Common.{◌∙◌, ap, sym, arith, drop}
use Rattle.hfs_btree.proofs.Walks.{walk-at, walk-cons, walk-end, step-at}
use Rattle.hfs_btree.proofs.walk.Walk.advance.Goals as goal

pub settle-place-requires-clause-structure : goal.settle-place-requires-clause-structure
settle-place-requires-clause-structure g c = c.self.invariant.structure

pub settle-place-requires-clause-at : goal.settle-place-requires-clause-at
settle-place-requires-clause-at g c =
    let nodes = g.N.Nodes.nodes c.self.inside.nodes.now in
    let structure = c.self.invariant.structure in
    step-at g.K.Key nodes structure c.self.inside.bytes c.self.inside.place c.self.inside.most
    (walk-at g.K.Key nodes structure c.self.inside.bytes c.self.inside.place c.self.inside.most c.self.invariant (omega (arith, c.count_in-count.ensures))) (omega (arith, c.count_in-count.ensures))

pub returns-then-self-count : goal.returns-then-self-count
returns-then-self-count g c =
    let nodes = g.N.Nodes.nodes c.self.inside.nodes.now in
    c.settle-place.ensures.same
    ∙ sym (ap (drop 1) (sym c.self.view_is ∙ walk-cons g.K.Key nodes c.self.invariant.structure c.self.inside.bytes c.self.inside.place c.self.inside.most (omega (arith, c.count_in-count.ensures))))

pub returns-else-self-count : goal.returns-else-self-count
returns-else-self-count g c =
    let nodes = g.N.Nodes.nodes c.self.inside.nodes.now in
    let none = sym c.self.view_is ∙ walk-end g.K.Key nodes c.self.invariant.structure c.self.inside.bytes c.self.inside.place c.self.inside.most c.self.invariant (omega (arith, c.count_in-count.ensures)) in
    none ∙ sym (ap (drop 1) none)
