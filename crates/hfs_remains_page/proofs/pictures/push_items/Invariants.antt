-- what was added is that of the items so far
use Rattle.std.proofs.Common.{◌≡◌, ◌++◌}
use Rattle.std.specs.List.{flat_map, range_with_len}
use Rattle.hfs_remains_page.specs.Pictures.{item_held}
use Rattle.hfs_remains_page.proofs.pictures.push_items.Given as goal

abbrev pub invariant-loop-i : goal.invariant-loop-i
invariant-loop-i l = l.holdings.items ≡ l.initial.holdings.items ++ flat_map (item_held l.found.salvage.now) (range_with_len 0 l.i)
