-- the names that came, and those from the place at which it is, are all
use Rattle.std.proofs.Common.{◌≡◌, ◌^◌, ◌<◌, ◌++◌, length}
use Rattle.std.specs.Prelude.{IfSome}
use Rattle.hfs_remains_places.specs.Names.{names_up}
use Rattle.hfs_remains_places.proofs.paths.Frame.names_up.Given as goal

abbrev pub invariant-loop-left : goal.invariant-loop-left
invariant-loop-left l = record {
  so : l.names.items ++ names_up l.self.things.now l.left l.at ≡ names_up l.self.things.now (2 ^ 32) l.fn.from;
  within : IfSome l.at (λ i. i < length l.self.things.now);
}

abbrev pub decreases-loop-left : goal.decreases-loop-left
decreases-loop-left l = l.left
