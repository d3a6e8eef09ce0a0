use Rattle.std.proofs.Common.{◌≡◌, ◌-◌, ◌^◌, ◌++◌, ◌<◌, List, take, drop, length}
use Rattle.std.specs.Prelude.{min}
use Rattle.std.specs.List.{flat_map, sum_by}
use Rattle.std.specs.Vec.{vec_len}
use Rattle.hfs_btree.specs.Tree.{children, records_in, Spot, spots}
use Rattle.hfs_btree_checks.specs.Shape.{turn_fault}
use Rattle.hfs_btree_checks.specs.ShapeSteps.{is_met}
use Rattle.hfs_btree_checks.proofs.shape_levels.check_level.Given as goal

abbrev pub invariant-loop-i : goal.invariant-loop-i
invariant-loop-i g l = record {
  same : (rest : List Spot) → turn_fault g.K.Key (g.N.Nodes.nodes l.tree.nodes.now) (is_met l.initial.met.items) (spots l.above 0 l.level ++ rest)
      ≡ turn_fault g.K.Key (g.N.Nodes.nodes l.tree.nodes.now) (is_met l.met.items) (spots l.above l.left (drop l.i l.level) ++ rest);
  next : 0 < l.above → l.next.items ≡ flat_map (children g.K.Key (g.N.Nodes.nodes l.tree.nodes.now)) (take l.i l.level);
  records : l.records ≡ min (sum_by (λ n. length (records_in (g.N.Nodes.nodes l.tree.nodes.now) n)) (take l.i l.level)) (2 ^ 64 - 1);
  len : vec_len l.met ≡ vec_len l.initial.met;
}
