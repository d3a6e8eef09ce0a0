-- so many so far
use Rattle.std.proofs.Common.{◌≡◌, take, sum_by}
use Rattle.hfs_word_put.specs.Sums.{at_most, item_bytes}
use Rattle.hfs_word_put.proofs.wants.bytes_in.Given as goal

abbrev pub invariant-loop-item : goal.invariant-loop-item
invariant-loop-item l = l.bytes ≡ at_most (sum_by item_bytes (take l.item-index l.items))
