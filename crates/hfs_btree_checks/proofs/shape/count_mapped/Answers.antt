use Rattle.std.proofs.Common.{ℕ, ◌-◌, ◌^◌, Option, sym, ap, ◌∙◌, subst, arith}
use Rattle.hfs_btree_checks.specs.Shape.{unless, ◌or_else◌, levels_fault, has_ends}
use Rattle.hfs_btree_checks.specs.ShapeSteps.{IsFault}
use Rattle.hfs_btree_checks.proofs.ShapeTurn.{passed-fault}
use Rattle.hfs_btree_checks.proofs.ShapeWhole.{fault-first, levels-are, ends-are, ends-fault, records-are}
use Rattle.hfs_btree_checks.proofs.shape.count_mapped.Goals as goal

pub returns-in_err-leaves-clause-fault : goal.returns-in_err-leaves-clause-fault
returns-in_err-leaves-clause-fault g c =
    let nodes = g.N.Nodes.nodes c.args.tree.now.nodes.now in
    let e = c.in_err-leaves.field-0.0 in
    let P : Option ℕ → Type 0 = λ fault. IsFault fault e in
    passed-fault c.from_residual.result e _ _ c.from_residual.ensures.1
    (fault-first (levels_fault g.K.Key nodes) (unless (has_ends g.K.Key nodes)) e
    (subst P (levels-are g.K.Key nodes c.args.met.items c.args.header c.requires.head c.requires.own) c.in_err-leaves.ensures.fault))

pub returns-then-has_ends-clause-fault : goal.returns-then-has_ends-clause-fault
returns-then-has_ends-clause-fault g c =
    let nodes = g.N.Nodes.nodes c.args.tree.now.nodes.now in
    let h = c.args.header in
    let leaves = c.in_ok-leaves.leaves in
    let found = c.in_ok-leaves.ensures in
    ends-fault g.K.Key nodes c.has_ends.result
    (sym (levels-are g.K.Key nodes c.args.met.items h c.requires.head c.requires.own) ∙ found.right)
    (c.has_ends.ensures ∙ ends-are g.K.Key nodes h leaves.first leaves.last c.requires.head found.first found.last)
    ∙ ap unless c.if-has_ends.true

pub returns-then-has_ends-clause-counts : goal.returns-then-has_ends-clause-counts
returns-then-has_ends-clause-counts g c =
    let nodes = g.N.Nodes.nodes c.args.tree.now.nodes.now in
    let h = c.args.header in
    let records = c.in_field-records.ensures ∙ records-are g.K.Key nodes h c.in_ok-leaves.leaves.records (2 ^ 64 - 1) c.requires.head c.in_ok-leaves.ensures.records (omega arith) in
    λ i. record { header = c.requires.head i; records = records i; free_nodes = c.free_nodes-free_nodes.ensures i }

pub returns-clause-fault : goal.returns-clause-fault
returns-clause-fault g c =
    let nodes = g.N.Nodes.nodes c.args.tree.now.nodes.now in
    let h = c.args.header in
    let leaves = c.in_ok-leaves.leaves in
    let found = c.in_ok-leaves.ensures in
    ends-fault g.K.Key nodes c.has_ends.result
    (sym (levels-are g.K.Key nodes c.args.met.items h c.requires.head c.requires.own) ∙ found.right)
    (c.has_ends.ensures ∙ ends-are g.K.Key nodes h leaves.first leaves.last c.requires.head found.first found.last)
    ∙ ap unless c.if-has_ends.false
