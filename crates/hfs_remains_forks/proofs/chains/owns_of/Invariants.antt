-- Behind the numbers so far come those of the records that are left.
use Rattle.std.proofs.Common.{◌≡◌, ◌^◌, ◌++◌, map, drop}
use Rattle.hfs_remains_forks.specs.Chains.{own_blocks, AreBelow}
use Rattle.hfs_remains_forks.proofs.chains.owns_of.Given as goal

abbrev pub invariant-loop-record : goal.invariant-loop-record
invariant-loop-record l = record {
  owns : l.owns.items ++ map own_blocks (drop l.record-index l.records) ≡ map own_blocks l.records;
  few : AreBelow (2 ^ 18) l.owns.items;
}
