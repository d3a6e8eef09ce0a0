-- Behind the entries so far come those of the things that are left.
use Rattle.std.proofs.Common.{◌≡◌, [], ◌++◌, length, map, take, drop}
use Rattle.std.specs.Prelude.{string_bytes}
use Rattle.hfs_remains_places.specs.Entries.{entries_behind, KnowsRows}
use Rattle.hfs_remains_places.proofs.entries.entries_of.Given as goal

abbrev pub invariant-loop-place : goal.invariant-loop-place
invariant-loop-place l = record {
  made : map string_bytes l.entries.items ++ entries_behind (take l.place l.things) (drop l.place l.things) ≡ entries_behind [] l.things;
  few : length l.entries.items ≡ l.place;
  known : KnowsRows l.rows (take l.place l.things);
}
