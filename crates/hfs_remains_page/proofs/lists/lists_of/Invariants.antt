-- what stands below each node of the things so far
use Rattle.std.proofs.Common.{◌≡◌, ◌+◌, length}
use Rattle.hfs_remains_page.specs.Trees.{up}
use Rattle.hfs_remains_page.specs.Walks.{AreBelow}
use Rattle.hfs_remains_page.proofs.lists.lists_of.Given as goal

abbrev pub invariant-loop-i : goal.invariant-loop-i
invariant-loop-i l = record {
  long : length l.lists.items ≡ length l.things + 3;
  below : AreBelow (up l.things) l.i l.lists.items;
}
