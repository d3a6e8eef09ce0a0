-- the folders are those of the things so far
use Rattle.std.proofs.Common.{take}
use Rattle.hfs_remains_places.specs.Folders.{KnowsFolders}
use Rattle.hfs_remains_page.proofs.numbers.folders_of.Given as goal

abbrev pub invariant-loop-i : goal.invariant-loop-i
invariant-loop-i l = KnowsFolders l.folders (take l.i l.things)
