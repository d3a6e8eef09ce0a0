-- Behind the places so far come those of the things that are left.
use Rattle.std.proofs.Common.{◌≡◌, ◌++◌, length, map, drop}
use Rattle.hfs_remains_places.specs.Things.{folder_of}
use Rattle.hfs_remains_places.proofs.chains.ups_of.Given as goal

abbrev pub invariant-loop-thing : goal.invariant-loop-thing
invariant-loop-thing l = record {
  ups : l.ups.items ++ map (λ thing. folder_of l.things thing.parent) (drop l.thing-index l.all) ≡ map (λ thing. folder_of l.things thing.parent) l.all;
  few : length l.ups.items ≡ l.thing-index;
}
