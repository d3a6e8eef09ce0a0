-- The edges of the extents so far are counted.
use Rattle.std.proofs.Common.{◌≡◌, ℕ, ◌<◌, take, length, get_or}
use Rattle.hfs_space.specs.Edges.{edge_count}
use Rattle.hfs_space.proofs.owners.edge_counts.Given as goal

abbrev pub invariant-loop-extent : goal.invariant-loop-extent
invariant-loop-extent l = record {
  long : length l.counts.items ≡ l.blocks;
  counted : (k z : ℕ) → k < l.blocks → get_or l.counts.items k z ≡ edge_count l.edge (take l.extent-index l.extents) k;
}
