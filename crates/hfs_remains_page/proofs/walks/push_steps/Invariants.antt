-- what was put on and what is left make all
use Rattle.std.proofs.Common.{◌≡◌, ◌≤◌, ◌++◌, length, map, take}
use Rattle.std.specs.Prelude.{reverse}
use Rattle.hfs_remains_page.specs.Trees.{inside}
use Rattle.hfs_remains_page.specs.Walks.{step_at}
use Rattle.hfs_remains_page.proofs.walks.push_steps.Given as goal

abbrev pub invariant-loop-left : goal.invariant-loop-left
invariant-loop-left l = record {
  within : l.left ≤ length l.nodes;
  made : l.stack.items ++ reverse (map (step_at (inside l.things) l.depth) (take l.left l.nodes))
      ≡ l.initial.stack.items ++ reverse (map (step_at (inside l.things) l.depth) l.nodes);
}

abbrev pub decreases-loop-left : goal.decreases-loop-left
decreases-loop-left l = l.left
