-- The records of the block's nodes so far are added.
use Rattle.std.proofs.Common.{◌≡◌, ◌++◌}
use Rattle.std.specs.List.{flat_map, range_with_len}
use Rattle.hfs_remains.specs.TreeFiles.{nodes_of}
use Rattle.hfs_remains.specs.LeafRecords.{records_at}
use Rattle.hfs_remains.proofs.leaf_records.push_block.Given as goal

abbrev pub invariant-loop-i : goal.invariant-loop-i
invariant-loop-i g l =
    l.records.items
    ≡ l.initial.records.items ++ flat_map (records_at (nodes_of (g.B.Blocks.blocks l.nodes.blocks.now) l.nodes.mdb.now l.nodes.file.now) l.old) (range_with_len l.first l.i)
