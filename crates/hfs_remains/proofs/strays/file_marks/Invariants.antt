-- The marks are those of the blocks so far.
use Rattle.std.proofs.Common.{◌≡◌, ℕ, take, length}
use Rattle.hfs_remains.specs.TreeFiles.{mark_of}
use Rattle.hfs_remains.specs.CatalogRecords.{has_block}
use Rattle.hfs_remains.proofs.strays.file_marks.Given as goal

abbrev pub invariant-loop-place : goal.invariant-loop-place
invariant-loop-place g l = record {
  marks : (b : ℕ) → mark_of l.marks.items b ≡ has_block (take l.place-index l.nodes.file.now) b;
  long : length l.marks.items ≡ l.nodes.mdb.now.allocation_blocks;
}
