-- The extents before the place are the fork's.
use Rattle.std.proofs.Common.{◌≡◌, ◌-◌, length}
use Rattle.hfs_space.specs.Extents.{fork_byte}
use Rattle.hfs_record_edits.proofs.AddedRecords.{IsAddedTo}
use Rattle.hfs_record_edits.proofs.adding_fork_extents.add_records.Given as goal

abbrev pub invariant-loop-at : goal.invariant-loop-at
invariant-loop-at g l = record {
  added : IsAddedTo l.file (fork_byte l.fork) l.extents l.at l.block (g.S.Nodes.nodes l.initial.nodes) (g.S.Nodes.nodes l.nodes);
  kept : g.S.NodesMut.kept l.nodes ≡ g.S.NodesMut.kept l.initial.nodes;
}

abbrev pub decreases-loop-at : goal.decreases-loop-at
decreases-loop-at g l = length l.extents - l.at
