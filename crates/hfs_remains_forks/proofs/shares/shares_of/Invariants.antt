-- Behind the shares so far come those of the items that are left.
use Rattle.std.proofs.Common.{◌≡◌, ◌++◌, drop}
use Rattle.hfs_remains_forks.specs.Verdicts.{shares_of}
use Rattle.hfs_remains_forks.proofs.shares.shares_of.Given as goal

abbrev pub invariant-loop-item : goal.invariant-loop-item
invariant-loop-item l = l.shares.items ++ shares_of l.chains l.mdb l.room (drop l.item-index l.items) ≡ shares_of l.chains l.mdb l.limit l.items
