-- Behind the things so far come the items that are left, and the folders are those of the things.
use Rattle.std.proofs.Common.{◌≡◌, ◌++◌, drop}
use Rattle.hfs_remains_places.specs.Folders.{KnowsFolders}
use Rattle.hfs_remains_places.proofs.things.push_items.Given as goal

abbrev pub invariant-loop-i : goal.invariant-loop-i
invariant-loop-i l = record {
  things : l.things.items ++ drop l.i l.items ≡ l.initial.things.items ++ l.items;
  folders : KnowsFolders l.folders l.things.items;
}
