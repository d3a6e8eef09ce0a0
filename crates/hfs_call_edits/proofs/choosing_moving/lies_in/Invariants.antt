use Rattle.std.proofs.Common.{◌≡◌}
use Rattle.hfs_catalog.specs.Tree.{catalog_of}
use Rattle.hfs_call_edits.specs.ChoosingMoving.{up_by_folders}
use Rattle.hfs_call_edits.proofs.choosing_moving.lies_in.Given as goal

abbrev pub invariant-loop-at : goal.invariant-loop-at
invariant-loop-at g l = up_by_folders (catalog_of (g.N.Nodes.nodes l.nodes)) l.left l.at l.up ≡ up_by_folders (catalog_of (g.N.Nodes.nodes l.nodes)) l.initial.left l.initial.at l.up

abbrev pub decreases-loop-at : goal.decreases-loop-at
decreases-loop-at g l = l.left
