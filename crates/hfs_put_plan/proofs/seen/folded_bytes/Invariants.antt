-- Behind the bytes so far come those that are left, folded.
use Rattle.std.proofs.Common.{◌≡◌, ◌++◌, drop, map}
use Rattle.hfs_fields.specs.Order.{fold_letter}
use Rattle.hfs_put_plan.proofs.seen.folded_bytes.Given as goal

abbrev pub invariant-loop-byte : goal.invariant-loop-byte
invariant-loop-byte l = l.row.items ++ map fold_letter (drop l.byte-index l.bytes) ≡ map fold_letter l.bytes
