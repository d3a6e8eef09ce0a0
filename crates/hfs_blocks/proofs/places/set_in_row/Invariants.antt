-- So many places are set.
use Rattle.hfs_blocks.specs.Places.{AreSet}
use Rattle.hfs_blocks.proofs.places.set_in_row.Given as goal

abbrev pub invariant-loop-i : goal.invariant-loop-i
invariant-loop-i l = AreSet l.from l.i l.place l.initial.row l.row
