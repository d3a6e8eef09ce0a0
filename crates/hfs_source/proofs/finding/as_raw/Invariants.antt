-- those so far, as they lie in their file
use Rattle.std.specs.Prelude.{◌≡◌, map, take}
use Rattle.hfs_source.specs.Found.{as_raw}
use Rattle.hfs_source.proofs.finding.as_raw.Given as goal

abbrev pub invariant-loop-next : goal.invariant-loop-next
invariant-loop-next l = l.found.items ≡ map as_raw (take l.next-index l.ranges)
