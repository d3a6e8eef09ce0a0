-- so many so far
use Rattle.std.proofs.Common.{◌≡◌, take, sum_by}
use Rattle.hfs_word_put.specs.Sums.{at_most, file_count}
use Rattle.hfs_word_put.proofs.wants.files_in.Given as goal

abbrev pub invariant-loop-item : goal.invariant-loop-item
invariant-loop-item l = l.files ≡ at_most (sum_by file_count (take l.item-index l.items))
