use Rattle.std.proofs.Common.{◌≡◌, ◌≤◌, map}
use Rattle.std.specs.Prelude.{not}
use Rattle.std.specs.List.{count_by, range_with_len}
use Rattle.hfs_btree.specs.Header.{bit_of}
use Rattle.hfs_btree_checks.proofs.shape_map.clear_count.Given as goal

abbrev pub invariant-loop-i : goal.invariant-loop-i
invariant-loop-i l = record {
  counted : l.clear ≡ count_by not (map (bit_of l.bytes) (range_with_len 0 l.i));
  few : l.clear ≤ l.i;
}
