-- what came so far is appended
use Rattle.std.proofs.Common.{◌≡◌, ◌++◌, take}
use Rattle.std.specs.List.{flat_map}
use Rattle.hfs_page.specs.Extents.{extent_text}
use Rattle.hfs_page.proofs.extents.push_each.Given as goal

abbrev pub invariant-loop-holding : goal.invariant-loop-holding
invariant-loop-holding l = l.page.items ≡ l.initial.page.items ++ flat_map extent_text (take l.holding-index l.holdings)
