-- The extents so far, and those that go on from the block behind them, are all.
use Rattle.std.proofs.Common.{◌≡◌, ◌-◌, ◌<◌, ◌^◌, ◌++◌}
use Rattle.hfs_space.specs.Extents.{fork_byte, extents_from, fork_extents}
use Rattle.hfs_btree.specs.Near.{IsLastLeaf}
use Rattle.hfs_space.specs.TreeKeys.{ext_keys, overflow_of}
use Rattle.hfs_space.proofs.extents.fork_extents.Given as goal

abbrev pub invariant-loop-extents : goal.invariant-loop-extents
invariant-loop-extents g l = record {
  few : l.blocks < 2 ^ 19;
  all : l.extents.items ++ extents_from (overflow_of (g.N.Nodes.nodes l.tree)) l.file (fork_byte l.fork) l.blocks ≡ fork_extents (overflow_of (g.N.Nodes.nodes l.tree)) l.file (fork_byte l.fork) l.first;
  last : IsLastLeaf ext_keys (g.N.Nodes.nodes l.tree) l.last;
}

abbrev pub decreases-loop-extents : goal.decreases-loop-extents
decreases-loop-extents g l = 65536 - l.blocks
