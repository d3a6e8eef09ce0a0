-- What is taken of a volume to be read beside the writer.
use Rattle.std.proofs.Common.{◌≡◌}
use Rattle.hfs_fields.specs.declared.file_record.FileRecord.{FileRecord}
use Rattle.hfs_fields.specs.declared.file_record.ForkRecord.{ForkRecord}
use Rattle.hfs_btree.specs.Tree.{Store}
use Rattle.hfs_model.specs.declared.call.Fork.{Fork}
use Rattle.hfs_space.specs.declared.fork_kind.ForkKind.{ForkKind}
use Rattle.hfs_space.specs.Extents.{fork_byte, fork_extents}
use Rattle.hfs_space.specs.TreeKeys.{overflow_of}
use Rattle.hfs_check.specs.Parts.{Blocks, extents_nodes, overflow_in}
use Rattle.hfs_volume.specs.Mounted.{fork_record}
use Rattle.hfs_volume.specs.Sharing.{file_extents}

pub extents_are : (blocks : Blocks) (fork : Fork) (f : FileRecord) (k : ForkKind × ForkRecord) (tree : Store) → k ≡ fork_record fork f → tree ≡ extents_nodes blocks
    → fork_extents (overflow_of tree) f.id (fork_byte k.0) k.1.extents ≡ file_extents blocks fork f
unfolding file_extents overflow_in
extents_are blocks fork f k tree is tree_is i = fork_extents (overflow_of (tree_is i)) f.id (fork_byte (is i).0) (is i).1.extents
