use Rattle.std.proofs.Common.{◌≡◌, ◌+◌, ◌-◌, [], ◌∷◌, ◌++◌, length, length-append, ap, ◌∙◌, arith}
use Rattle.std.specs.List.{range_with_len}
use Rattle.hfs_remains.specs.TreeFiles.{FileBlocks, first_there, mark_of}
use Rattle.hfs_remains.proofs.FileLemmas.{step-takes}
use Rattle.hfs_remains.proofs.tree_file.take_extent.Goals as goal

pub loop-i-preserved : goal.loop-i-preserved
loop-i-preserved c = record {
  takes = λ behind.
      let first = c.args.extent.first in
      let count = c.args.extent.count in
      let i = c.loop-i.i in
      let number : c.from.result + c.from-in-loop-i.result ≡ first + i = (λ t. c.from.ensures t + c.from-in-loop-i.ensures t) in
      ap (λ (l : FileBlocks). l ++ first_there (mark_of c.take_block-taken.new.marks) (range_with_len (first + (i + 1)) (count - (i + 1)) ++ behind)) c.in_ok-push.ensures.items
      ∙ step-takes c.args.file.now.items c.loop-i.file.items c.args.marks.now c.loop-i.marks c.take_block-taken.new.marks c.take_block-taken.result first count i (c.from.result + c.from-in-loop-i.result) behind
      c.loop-i-test.true number c.take_block-taken.ensures c.loop-i.invariant.takes;
  few = omega (arith, length-append c.loop-i.file.items (c.take_block-taken.result ∷ []), ap (λ (l : FileBlocks). length l) c.in_ok-push.ensures.items, c.loop-i.invariant.few);
}
