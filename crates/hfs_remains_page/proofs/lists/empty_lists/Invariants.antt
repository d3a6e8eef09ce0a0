-- so many lists, and nothing in them
use Rattle.std.proofs.Common.{◌≡◌, length}
use Rattle.hfs_remains_page.proofs.TreeLemmas.{AreEmpty}
use Rattle.hfs_remains_page.proofs.lists.empty_lists.Given as goal

abbrev pub invariant-loop-k : goal.invariant-loop-k
invariant-loop-k l = record {
  long : length l.lists.items ≡ l._k;
  empty : AreEmpty l.lists.items;
}
