-- The flags up to this one are set, and the others as they were.
use Rattle.hfs_space.specs.Flags.{HasFlagged}
use Rattle.hfs_space.proofs.flags.set_flags.Given as goal

abbrev pub invariant-loop-i : goal.invariant-loop-i
invariant-loop-i l = HasFlagged l.first l.i l.initial.flags l.flags
