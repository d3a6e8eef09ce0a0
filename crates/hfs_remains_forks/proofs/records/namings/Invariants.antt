-- Behind the folders so far come those that the records left name.
use Rattle.std.proofs.Common.{◌≡◌, ◌++◌, drop}
use Rattle.hfs_remains_forks.specs.Records.{namings_of}
use Rattle.hfs_remains_forks.proofs.records.namings.Given as goal

abbrev pub invariant-loop-found : goal.invariant-loop-found
invariant-loop-found l = l.things.items ++ namings_of (drop l.found-index l.records) ≡ namings_of l.records
