-- the way so far and what is to come make the whole
use Rattle.std.proofs.Common.{◌≡◌, ◌++◌}
use Rattle.std.specs.Prelude.{reverse}
use Rattle.hfs_remains_page.specs.Trees.{inside, walk_from}
use Rattle.hfs_remains_page.specs.Walks.{walk}
use Rattle.hfs_remains_page.proofs.walks.push_walk.Given as goal

abbrev pub invariant-loop-left : goal.invariant-loop-left
invariant-loop-left l = l.order.items ++ walk (inside l.things) l.left (reverse l.stack.items) ≡ l.fn.order.items ++ walk_from l.things l.node

abbrev pub decreases-loop-left : goal.decreases-loop-left
decreases-loop-left l = l.left
