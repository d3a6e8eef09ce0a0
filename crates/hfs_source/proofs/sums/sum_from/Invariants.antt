-- the sum so far goes on over the bytes that are still to come
use Rattle.std.specs.Prelude.{◌≡◌, ◌*◌, drop}
use Rattle.hfs_source.specs.Sums.{sum_from}
use Rattle.hfs_source.proofs.sums.sum_from.Given as goal

abbrev pub invariant-loop-n : goal.invariant-loop-n
invariant-loop-n l = sum_from l.sum (drop (2 * l.n) l.bytes) ≡ sum_from l.start l.bytes
