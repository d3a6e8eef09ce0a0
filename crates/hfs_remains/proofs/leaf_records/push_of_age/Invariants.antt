-- The records of the blocks so far are added.
use Rattle.std.proofs.Common.{◌≡◌, ◌*◌, ◌++◌}
use Rattle.std.specs.List.{flat_map, range_with_len}
use Rattle.hfs_space.specs.Forks.{blocks_each}
use Rattle.hfs_remains.specs.TreeFiles.{nodes_of}
use Rattle.hfs_remains.specs.LeafRecords.{records_at}
use Rattle.hfs_remains.proofs.leaf_records.push_of_age.Given as goal

abbrev pub invariant-loop-place : goal.invariant-loop-place
invariant-loop-place g l =
    l.records.items
    ≡ l.initial.records.items ++ flat_map (records_at (nodes_of (g.B.Blocks.blocks l.nodes.blocks.now) l.nodes.mdb.now l.nodes.file.now) l.old) (range_with_len 0 (l.place * blocks_each l.nodes.mdb.now))
