-- The marks tell of each block so far whether it is there.
use Rattle.std.proofs.Common.{◌≡◌, map}
use Rattle.std.specs.List.{range_with_len}
use Rattle.hfs_remains.specs.Allocation.{is_there}
use Rattle.hfs_remains.proofs.tree_file.marks_of.Given as goal

abbrev pub invariant-loop-b : goal.invariant-loop-b
invariant-loop-b l = l.marks.items ≡ map (is_there l.total l.mdb) (range_with_len 0 l.b)
