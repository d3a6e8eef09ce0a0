-- None of the first was read.
use Rattle.hfs_source.specs.Held.{HasNone}
use Rattle.hfs_source.proofs.sparse_blocks.SparseBlocks.unread.Given as goal

abbrev pub invariant-loop-i : goal.invariant-loop-i
invariant-loop-i l = record {
  none : HasNone l.first l.i l.self;
}
