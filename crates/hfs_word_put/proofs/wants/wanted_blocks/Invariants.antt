-- so many so far
use Rattle.std.proofs.Common.{◌≡◌, take, sum_by}
use Rattle.hfs_word_put.specs.Sums.{at_most, item_blocks}
use Rattle.hfs_word_put.proofs.wants.wanted_blocks.Given as goal

abbrev pub invariant-loop-item : goal.invariant-loop-item
invariant-loop-item l = l.wanted ≡ at_most (sum_by (item_blocks l.size) (take l.item-index l.items))
