-- The owners by the blocks so far are counted.
use Rattle.std.proofs.Common.{take}
use Rattle.hfs_remains_forks.specs.Owners.{AddsOwners}
use Rattle.hfs_remains_forks.proofs.owners.add_owners.Given as goal

abbrev pub invariant-loop-place : goal.invariant-loop-place
invariant-loop-place l = AddsOwners (take l.place-index l.places) l.initial.counts l.counts
