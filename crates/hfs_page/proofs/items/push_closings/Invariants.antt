-- what is appended and the ends that are left make all
use Rattle.std.proofs.Common.{◌≡◌, ◌++◌}
use Rattle.hfs_page.specs.Items.{closings}
use Rattle.hfs_page.proofs.items.push_closings.Given as goal

abbrev pub invariant-loop-left : goal.invariant-loop-left
invariant-loop-left l = l.page.items ++ closings l.left ≡ l.initial.page.items ++ closings l.count

abbrev pub decreases-loop-left : goal.decreases-loop-left
decreases-loop-left l = l.left
