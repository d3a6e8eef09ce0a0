-- Behind the places so far come those of the records that are left.
use Rattle.std.proofs.Common.{◌≡◌, ◌++◌, map, drop}
use Rattle.hfs_remains_forks.specs.Chains.{next_place}
use Rattle.hfs_remains_forks.proofs.chains.nexts_of.Given as goal

abbrev pub invariant-loop-record : goal.invariant-loop-record
invariant-loop-record l = l.nexts.items ++ map (next_place l.records) (drop l.record-index l.records) ≡ map (next_place l.records) l.records
