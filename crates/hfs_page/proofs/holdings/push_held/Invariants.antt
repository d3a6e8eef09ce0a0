-- what came so far is appended
use Rattle.std.proofs.Common.{◌≡◌, ◌++◌, take}
use Rattle.hfs_page.specs.Holdings.{all_held}
use Rattle.hfs_page.proofs.holdings.push_held.Given as goal

abbrev pub invariant-loop-extent : goal.invariant-loop-extent
invariant-loop-extent l = l.holdings.items ≡ l.initial.holdings.items ++ all_held l.part (take l.extent-index l.extents)
