-- The pieces to come make of the extents so far what all of them make of the first.
use Rattle.std.proofs.Common.{◌≡◌, ◌≤◌, length, drop}
use Rattle.hfs_record_edits.specs.Lengthened.{lengthened, used_places}
use Rattle.hfs_record_edits.proofs.AddLemmas.{AreUsedTo}
use Rattle.hfs_record_edits.proofs.lengthening.lengthen.Given as goal

abbrev pub invariant-loop-i : goal.invariant-loop-i
invariant-loop-i l = record {
  few : l.i ≤ length l.pieces;
  to : AreUsedTo l.extents.items l.used;
  more : lengthened l.extents.items l.used (drop l.i l.pieces) ≡ lengthened l.initial.extents.items (used_places l.initial.extents.items) l.pieces;
}
