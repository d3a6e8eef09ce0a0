-- the copies so far are the first values
use Rattle.std.proofs.Common.{◌≡◌, take}
use Rattle.hfs_database.proofs.memory.all_copied.Given as goal

abbrev pub invariant-loop-value : goal.invariant-loop-value
invariant-loop-value l = l.copies.items ≡ take l.value-index l.values
