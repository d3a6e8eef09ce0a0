-- What was read and what is left make the whole fork.
use Rattle.std.proofs.Common.{◌-◌}
use Rattle.hfs_viewers.proofs.PieceReads.{AreRead}
use Rattle.hfs_viewers.proofs.mounted_forks.read_pieces.Given as goal

abbrev pub invariant-loop-offset : goal.invariant-loop-offset
invariant-loop-offset l = AreRead l.initial.source l.size l.pieces l.offset l.source

abbrev pub decreases-loop-offset : goal.decreases-loop-offset
decreases-loop-offset l = l.size - l.offset
