-- None of the blocks so far is shared.
use Rattle.std.proofs.Common.{◌≡◌, false, take}
use Rattle.std.specs.List.{list_any}
use Rattle.hfs_remains_forks.specs.Owners.{is_counted_shared}
use Rattle.hfs_remains_forks.proofs.owners.has_shared.Given as goal

abbrev pub invariant-loop-place : goal.invariant-loop-place
invariant-loop-place l = list_any (is_counted_shared l.counts) (take l.place-index l.places) ≡ false
