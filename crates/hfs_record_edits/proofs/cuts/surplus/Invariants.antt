-- The pieces so far, and those of the extents to come.
use Rattle.std.proofs.Common.{◌≡◌, ◌≤◌, ◌++◌, length, drop}
use Rattle.hfs_record_edits.specs.Cuts.{surplus}
use Rattle.hfs_record_edits.proofs.cuts.surplus.Given as goal

abbrev pub invariant-loop-i : goal.invariant-loop-i
invariant-loop-i l = record {
  few : l.i ≤ length l.extents;
  more : l.surplus.items ++ surplus l.stay (drop l.i l.extents) ≡ surplus l.count l.extents;
}
