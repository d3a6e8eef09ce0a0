use Rattle.std.proofs.Common.{◌≡◌, ◌≤◌, ◌∷◌, []}
use Rattle.std.specs.Vec.{vec_len}
use Rattle.hfs_btree.specs.Tree.{turn, last_level}
use Rattle.hfs_btree_checks.specs.Shape.{turn_fault}
use Rattle.hfs_btree_checks.specs.ShapeSteps.{is_met}
use Rattle.hfs_btree_checks.proofs.shape_levels.check_levels.Given as goal

abbrev pub invariant-loop-below : goal.invariant-loop-below
invariant-loop-below g l = record {
  same : turn_fault g.K.Key (g.N.Nodes.nodes l.tree.nodes.now) (is_met l.fn.met.items) (turn g.K.Key (g.N.Nodes.nodes l.tree.nodes.now) l.depth (l.root ∷ []))
      ≡ turn_fault g.K.Key (g.N.Nodes.nodes l.tree.nodes.now) (is_met l.met.items) (turn g.K.Key (g.N.Nodes.nodes l.tree.nodes.now) l.below l.level.items);
  leaves : last_level g.K.Key (g.N.Nodes.nodes l.tree.nodes.now) l.depth (l.root ∷ []) ≡ last_level g.K.Key (g.N.Nodes.nodes l.tree.nodes.now) l.below l.level.items;
  some : 1 ≤ l.below;
  len : vec_len l.met ≡ l.tree.count;
}

abbrev pub decreases-loop-below : goal.decreases-loop-below
decreases-loop-below g l = l.below
