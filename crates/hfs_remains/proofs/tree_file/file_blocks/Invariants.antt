-- Behind the blocks so far come those of the extents that are left.
use Rattle.std.proofs.Common.{◌≡◌, ◌*◌, ◌≤◌, ◌++◌, drop, length}
use Rattle.hfs_space.specs.Extents.{extent_blocks}
use Rattle.hfs_remains.specs.Allocation.{is_there}
use Rattle.hfs_remains.specs.TreeFiles.{first_there, mark_of}
use Rattle.hfs_remains.proofs.tree_file.file_blocks.Given as goal

abbrev pub invariant-loop-extent : goal.invariant-loop-extent
invariant-loop-extent l = record {
  marks : length l.marks.items ≤ 65535;
  few : length l.file.items ≤ 65535 * l.extent-index;
  makes :
      l.file.items ++ first_there (mark_of l.marks.items) (extent_blocks (drop l.extent-index l.extents))
      ≡ first_there (is_there l.total l.mdb) (extent_blocks l.extents);
}
