-- The extents so far are cut, and with what stays of the others they make the whole.
use Rattle.std.proofs.Common.{◌≡◌, ◌++◌, ◌≤◌, length, take, drop}
use Rattle.hfs_record_edits.specs.Cuts.{cut}
use Rattle.hfs_record_edits.proofs.cuts.cut_all.Given as goal

abbrev pub invariant-loop-i : goal.invariant-loop-i
invariant-loop-i l = record {
  few : l.i ≤ length l.initial.extents.items;
  long : length l.extents.items ≡ length l.initial.extents.items;
  whole : take l.i l.extents.items ++ cut l.stay (drop l.i l.extents.items) ≡ cut l.count l.initial.extents.items;
}
