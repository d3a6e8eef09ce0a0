-- As many flags as this number came, and none is set that wasn't.
use Rattle.std.proofs.Common.{◌≡◌, length}
use Rattle.hfs_space.specs.Flags.{AreSameFlags}
use Rattle.hfs_space.proofs.flags.more_flags.Given as goal

abbrev pub invariant-loop-n : goal.invariant-loop-n
invariant-loop-n l = record {
  len : length l.flags.items ≡ l._n;
  same : AreSameFlags l.initial.flags.items l.flags.items;
}
