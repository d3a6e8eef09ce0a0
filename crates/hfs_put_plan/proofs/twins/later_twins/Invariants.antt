-- Behind those so far come those of the names that are left.
use Rattle.std.proofs.Common.{◌≡◌, [], ◌++◌, take, drop}
use Rattle.hfs_put_plan.specs.Seen.{KnowsNames}
use Rattle.hfs_put_plan.specs.Twins.{twins_behind}
use Rattle.hfs_put_plan.proofs.twins.later_twins.Given as goal

abbrev pub invariant-loop-place : goal.invariant-loop-place
invariant-loop-place l = record {
  made : l.twins.items ++ twins_behind (take l.place l.names) (drop l.place l.names) ≡ twins_behind [] l.names;
  known : KnowsNames l.seen (take l.place l.names);
}
