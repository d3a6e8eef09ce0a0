use Rattle.std.proofs.Common.{◌∙◌, ap, sym, Some, ℕ, List}
use Rattle.hfs_btree.specs.Lookups.{first_pair}
use Rattle.hfs_btree.specs.Tree.{pair_of}
use Rattle.hfs_btree.proofs.Walks.{walk-leaf, walk-cons, walk-end}
use Rattle.hfs_btree.proofs.walk.Walk.pair.Goals as goal

pub pair_of-requires : goal.pair_of-requires
pair_of-requires g c =
    rw c.in-Some.ensures.1 (walk-leaf g.K.Key (g.N.Nodes.nodes c.self.inside.nodes.now) c.self.invariant.structure c.self.inside.bytes c.self.inside.place c.self.inside.most c.self.invariant c.in-Some.ensures.0)

pub returns-in-Some : goal.returns-in-Some
returns-in-Some g c =
    let nodes = g.N.Nodes.nodes c.self.inside.nodes.now in
    let first = ap first_pair (sym c.self.view_is ∙ walk-cons g.K.Key nodes c.self.invariant.structure c.self.inside.bytes c.self.inside.place c.self.inside.most c.in-Some.ensures.0) in
    (λ i. Some (c.pair_of.ensures.key i, c.pair_of.ensures.body i)) ∙ ap (λ (e : List ℕ). Some (pair_of g.K.Key e)) c.in-Some.ensures.1 ∙ sym first

pub returns-in-None : goal.returns-in-None
returns-in-None g c =
    sym (ap first_pair (sym c.self.view_is ∙ walk-end g.K.Key (g.N.Nodes.nodes c.self.inside.nodes.now) c.self.invariant.structure c.self.inside.bytes c.self.inside.place c.self.inside.most c.self.invariant c.in-None.ensures))
