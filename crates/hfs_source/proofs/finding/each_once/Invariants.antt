-- each range once, of those so far
use Rattle.std.specs.Prelude.{◌≡◌, [], take}
use Rattle.std.specs.List.{fold}
use Rattle.hfs_source.specs.Found.{with_new}
use Rattle.hfs_source.proofs.finding.each_once.Given as goal

abbrev pub invariant-loop-next : goal.invariant-loop-next
invariant-loop-next l = l.found.items ≡ fold with_new [] (take l.next-index l.ranges)
