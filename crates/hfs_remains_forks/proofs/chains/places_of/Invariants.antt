-- The places are those of the records so far.
use Rattle.std.proofs.Common.{take}
use Rattle.hfs_remains_forks.specs.Chains.{KnowsRecords}
use Rattle.hfs_remains_forks.proofs.chains.places_of.Given as goal

abbrev pub invariant-loop-i : goal.invariant-loop-i
invariant-loop-i l = KnowsRecords l.places (take l.i l.records)
