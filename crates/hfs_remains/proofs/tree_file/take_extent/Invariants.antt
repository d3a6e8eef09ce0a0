-- Behind the blocks so far come those of the extent that are left.
use Rattle.std.proofs.Common.{◌≡◌, ℕ, ◌+◌, ◌-◌, ◌++◌, List, length}
use Rattle.std.specs.List.{range_with_len}
use Rattle.hfs_remains.specs.TreeFiles.{first_there, mark_of}
use Rattle.hfs_remains.proofs.tree_file.take_extent.Given as goal

abbrev pub invariant-loop-i : goal.invariant-loop-i
invariant-loop-i l = record {
  takes :
      (behind : List ℕ)
      → l.file.items ++ first_there (mark_of l.marks) (range_with_len (l.extent.first + l.i) (l.extent.count - l.i) ++ behind)
      ≡ l.initial.file.items ++ first_there (mark_of l.initial.marks) (range_with_len l.extent.first l.extent.count ++ behind);
  few : length l.file.items ≡ length l.initial.file.items + l.i;
}
