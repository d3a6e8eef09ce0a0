-- The places in use among those so far.
use Rattle.std.proofs.Common.{◌≤◌, length, take}
use Rattle.hfs_record_edits.proofs.AddLemmas.{AreUsedTo}
use Rattle.hfs_record_edits.proofs.lengthening.used_places.Given as goal

abbrev pub invariant-loop-i : goal.invariant-loop-i
invariant-loop-i l = record {
  few : l.i ≤ length l.extents;
  to : AreUsedTo (take l.i l.extents) l.used;
}
