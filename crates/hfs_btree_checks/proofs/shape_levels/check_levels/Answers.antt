use Rattle.std.proofs.Common.{ℕ, ◌-◌, ◌^◌, List, ◌++◌, arith, ap, sym, ◌∙◌, subst, Option, length}
use Rattle.std.specs.Prelude.{min}
use Rattle.std.specs.List.{flat_map, sum_by}
use Rattle.hfs_btree.specs.Tree.{children, records_in, spots, turn, first_of, last_of}
use Rattle.hfs_btree_checks.specs.Shape.{turn_fault}
use Rattle.hfs_btree_checks.specs.ShapeSteps.{is_met, IsFault}
use Rattle.hfs_btree_checks.proofs.ShapeTurn.{passed-on, turn-step, last_level-one}
use Rattle.hfs_btree_checks.proofs.shape_levels.check_levels.Goals as goal

pub returns-in_err-found-clause-fault : goal.returns-in_err-found-clause-fault
returns-in_err-found-clause-fault g c =
    let nodes = g.N.Nodes.nodes c.args.tree.now.nodes.now in
    let level = c.loop-below.level.items in
    let below = c.loop-below.below in
    let met = c.loop-below.met.items in
    let e = c.in_err-found.field-0.0 in
    let rest = turn g.K.Key nodes (below - 1) (flat_map (children g.K.Key nodes) level) in
    let P : Option ℕ → Type 0 = λ fault. IsFault fault e in
    passed-on c.from_residual-in_err-found.result e _ c.from_residual-in_err-found.ensures.1
    (subst P
    (sym
    (c.loop-below.invariant.same
    ∙ ap (turn_fault g.K.Key nodes (is_met met)) (turn-step g.K.Key nodes below (below - 1) level (omega arith))
    ∙ ap (λ (ns : List ℕ). turn_fault g.K.Key nodes (is_met met) (spots (below - 1) 0 ns ++ rest)) (sym c.deref.ensures.value)))
    (c.in_err-found.ensures.fault rest))

pub returns-in_err-leaves-clause-fault : goal.returns-in_err-leaves-clause-fault
returns-in_err-leaves-clause-fault g c =
    let nodes = g.N.Nodes.nodes c.args.tree.now.nodes.now in
    let level = c.loop-below.level.items in
    let below = c.loop-below.below in
    let met = c.loop-below.met.items in
    let some = c.loop-below.invariant.some in
    let e = c.in_err-leaves.field-0.0 in
    let rest = turn g.K.Key nodes 0 (flat_map (children g.K.Key nodes) level) in
    let P : Option ℕ → Type 0 = λ fault. IsFault fault e in
    passed-on c.from_residual-in_err-leaves.result e _ c.from_residual-in_err-leaves.ensures.1
    (subst P
    (sym
    (c.loop-below.invariant.same
    ∙ ap (turn_fault g.K.Key nodes (is_met met)) (turn-step g.K.Key nodes below 0 level (omega arith))
    ∙ ap (λ (ns : List ℕ). turn_fault g.K.Key nodes (is_met met) (spots 0 0 ns ++ rest)) (sym c.deref-2.ensures.value)))
    (c.in_err-leaves.ensures.fault rest))

pub returns-clause-right : goal.returns-clause-right
returns-clause-right g c =
    let nodes = g.N.Nodes.nodes c.args.tree.now.nodes.now in
    let level = c.loop-below.level.items in
    let below = c.loop-below.below in
    let met = c.loop-below.met.items in
    let some = c.loop-below.invariant.some in
    let rest = turn g.K.Key nodes 0 (flat_map (children g.K.Key nodes) level) in
    c.loop-below.invariant.same
    ∙ ap (turn_fault g.K.Key nodes (is_met met)) (turn-step g.K.Key nodes below 0 level (omega arith))
    ∙ ap (λ (ns : List ℕ). turn_fault g.K.Key nodes (is_met met) (spots 0 0 ns ++ rest)) (sym c.deref-2.ensures.value)
    ∙ c.in_ok-leaves.ensures.right rest

pub returns-clause-first : goal.returns-clause-first
returns-clause-first g c =
    let nodes = g.N.Nodes.nodes c.args.tree.now.nodes.now in
    let some = c.loop-below.invariant.some in
    c.first_node.ensures
    ∙ ap first_of c.deref-3.ensures.value
    ∙ ap first_of (sym (c.loop-below.invariant.leaves ∙ last_level-one g.K.Key nodes c.loop-below.below c.loop-below.level.items (omega arith)))

pub returns-clause-last : goal.returns-clause-last
returns-clause-last g c =
    let nodes = g.N.Nodes.nodes c.args.tree.now.nodes.now in
    let some = c.loop-below.invariant.some in
    c.last_node.ensures
    ∙ ap last_of c.deref-4.ensures.value
    ∙ ap last_of (sym (c.loop-below.invariant.leaves ∙ last_level-one g.K.Key nodes c.loop-below.below c.loop-below.level.items (omega arith)))

pub returns-clause-records : goal.returns-clause-records
returns-clause-records g c =
    let nodes = g.N.Nodes.nodes c.args.tree.now.nodes.now in
    let some = c.loop-below.invariant.some in
    c.in_ok-leaves.ensures.records
    ∙ ap (λ (ns : List ℕ). min (sum_by (λ n. length (records_in nodes n)) ns) (2 ^ 64 - 1))
    (c.deref-2.ensures.value ∙ sym (c.loop-below.invariant.leaves ∙ last_level-one g.K.Key nodes c.loop-below.below c.loop-below.level.items (omega arith)))
