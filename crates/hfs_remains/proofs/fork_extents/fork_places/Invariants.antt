-- The places are those of the records so far.
use Rattle.std.proofs.Common.{◌≡◌, take, length}
use Rattle.hfs_remains.specs.OverflowRecords.{TellsPlaces}
use Rattle.hfs_remains.proofs.fork_extents.fork_places.Given as goal

abbrev pub invariant-loop-i : goal.invariant-loop-i
invariant-loop-i l = record {
  places : TellsPlaces (take l.i l.records) l.file l.fork l.places.items;
  long : length l.places.items ≡ 65536;
}
