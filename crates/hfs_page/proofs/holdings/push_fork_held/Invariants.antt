-- what is added and what is still to come make all
use Rattle.std.proofs.Common.{◌≡◌, ◌++◌, drop}
use Rattle.hfs_page.specs.declared.parts.Part.TheVariants.{FirstExtents}
use Rattle.hfs_page.specs.Holdings.{held_from}
use Rattle.hfs_page.proofs.holdings.push_fork_held.Given as goal

abbrev pub invariant-loop-extent : goal.invariant-loop-extent
invariant-loop-extent l = l.holdings.items ++ held_from l.part l.fork (drop l.extent-index l.extents) ≡ l.initial.holdings.items ++ held_from FirstExtents l.fork l.extents
