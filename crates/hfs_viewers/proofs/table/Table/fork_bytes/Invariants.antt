-- What was read and what is still to come make what was asked for.
use Rattle.std.proofs.Common.{◌≡◌, ◌≤◌, ◌<◌, ◌+◌, ◌++◌}
use Rattle.hfs_space.specs.Forks.{read_from}
use Rattle.hfs_viewers.specs.Pieces.{fork_length}
use Rattle.hfs_viewers.specs.Tables.{bytes_in}
use Rattle.hfs_viewers.proofs.table.Table.fork_bytes.Given as goal

abbrev pub invariant-loop-left : goal.invariant-loop-left
invariant-loop-left l = record {
  fits : 0 < l.left → l.place + l.left ≤ fork_length l.fork.pieces;
  rest : l.bytes.items ++ read_from (bytes_in l.self l.fork) l.place l.left ≡ read_from (bytes_in l.self l.fork) l.offset l.count;
}

abbrev pub decreases-loop-left : goal.decreases-loop-left
decreases-loop-left l = l.left
