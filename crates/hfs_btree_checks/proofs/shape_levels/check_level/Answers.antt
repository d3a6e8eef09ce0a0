use Rattle.std.proofs.Common.{ℕ, ◌+◌, ◌-◌, ◌^◌, ◌<◌, List, ◌++◌, true, arith, ap, sym, ◌∙◌, refl, get_or, take, drop, length, Bool}
use Rattle.std.specs.Prelude.{min}
use Rattle.std.specs.List.{sum_by}
use Rattle.hfs_btree.specs.Tree.{children, records_in, spots}
use Rattle.hfs_btree_checks.specs.Shape.{turn_fault}
use Rattle.hfs_btree_checks.specs.ShapeSteps.{is_met}
use Rattle.hfs_btree_checks.proofs.ShapeTurn.{stops, goes-on, more-children, more-records, passed-on, named, kept-min}
use Rattle.hfs_btree_checks.proofs.ShapeNode.{right-within}
use Rattle.std.proofs.Math.ListN.{length-set}
use Rattle.hfs_btree_checks.proofs.shape_levels.check_level.Goals as goal

pub returns-in_err-count-clause-fault : goal.returns-in_err-count-clause-fault
returns-in_err-count-clause-fault g c =
    let nodes = g.N.Nodes.nodes c.args.tree.now.nodes.now in
    let level = c.args.level.now in
    let i = c.loop-i.i in
    let n = get_or level i 0 in
    passed-on c.from_residual.result c.in_err-count.field-0.0 _ c.from_residual.ensures.1
    (λ rest. named _ n _ c.in_err-count.field-0.0 c.in_err-count.ensures.wrong
    (λ wrong. c.loop-i.invariant.same rest ∙ stops g.K.Key nodes c.loop-i.met.items c.args.above c.loop-i.left level i n c.node_after-right.result (omega arith) refl (sym c.node_after-right.ensures) wrong rest))

pub loop-i-preserved : goal.loop-i-preserved
loop-i-preserved g c =
    let nodes = g.N.Nodes.nodes c.args.tree.now.nodes.now in
    let level = c.args.level.now in
    let i = c.loop-i.i in
    let n = get_or level i 0 in
    let lt : i < length level = omega arith in
    let len = c.loop-i.invariant.len in
    let ok = c.loop-i.met.ok in
    let counted = c.args.tree.now.counted in
    let in_tree = right-within g.K.Key nodes _ _ c.in_ok-count.ensures.right in
    let within : n < length c.loop-i.met.items = omega arith in
    record {
      same = λ rest. c.loop-i.invariant.same rest ∙ goes-on g.K.Key nodes c.loop-i.met.items c.args.above c.loop-i.left level i n c.node_after-right.result lt refl (sym c.node_after-right.ensures) c.in_ok-count.ensures.right within rest ∙ ap (λ (met : List Bool). turn_fault g.K.Key nodes (is_met met) (spots c.args.above n (drop (i + 1) level) ++ rest)) (sym c.in_ok-count.ensures.marked);
      next = λ some. c.in_ok-count.ensures.below some ∙ ap (λ (ns : List ℕ). ns ++ children g.K.Key nodes n) (c.loop-i.invariant.next some) ∙ sym (more-children (children g.K.Key nodes) level i n lt refl);
      records =
          c.saturating_add-records.ensures
          ∙ ap (λ (k : ℕ). min (c.loop-i.records + k) (2 ^ 64 - 1)) c.in_ok-count.ensures.records
          ∙ kept-min (sum_by (λ m. length (records_in nodes m)) (take i level)) (length (records_in nodes n)) (2 ^ 64 - 1) c.loop-i.records c.loop-i.invariant.records
          ∙ ap (λ (k : ℕ). min k (2 ^ 64 - 1)) (sym (more-records (λ m. length (records_in nodes m)) level i n lt refl));
      len = omega (arith, c.visit_node.new.met.ok.0, ap (λ (met : List Bool). length met) c.in_ok-count.ensures.marked, length-set c.loop-i.met.items n true);
    }
