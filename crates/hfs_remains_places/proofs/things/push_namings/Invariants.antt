-- With the named folders that are left it makes the whole, and the folders are those of all.
use Rattle.std.proofs.Common.{◌≡◌, drop}
use Rattle.hfs_remains_places.specs.Folders.{KnowsFolders}
use Rattle.hfs_remains_places.specs.Things.{named_behind}
use Rattle.hfs_remains_places.proofs.things.push_namings.Given as goal

abbrev pub invariant-loop-i : goal.invariant-loop-i
invariant-loop-i l = record {
  things : named_behind l.things.items (drop l.i l.namings) ≡ named_behind l.initial.things.items l.namings;
  folders : KnowsFolders l.folders l.things.items;
}
