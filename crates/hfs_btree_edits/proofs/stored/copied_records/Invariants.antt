use Rattle.std.proofs.Common.{◌≡◌, take, map}
use Rattle.hfs_btree_edits.proofs.stored.copied_records.Given as goal

abbrev pub invariant-loop-i : goal.invariant-loop-i
invariant-loop-i l = map (λ r. r.items) l.records.items ≡ take l.i l.node.records
