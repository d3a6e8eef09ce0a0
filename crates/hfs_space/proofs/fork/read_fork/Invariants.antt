-- What was read, and what is left to read of the extents that are left, is the whole answer.
use Rattle.std.proofs.Common.{◌≡◌, ◌++◌, take, drop}
use Rattle.hfs_space.specs.Forks.{fork_bytes, read_from}
use Rattle.hfs_space.specs.ForkLengths.{all_bytes}
use Rattle.hfs_space.proofs.fork.read_fork.Given as goal

abbrev pub invariant-loop-extent : goal.invariant-loop-extent
invariant-loop-extent g l =
    l.bytes.items ++ take l.rest (drop l.skip (all_bytes (g.B.Blocks.blocks l.blocks) l.mdb (drop l.extent-index l.extents)))
    ≡ read_from (fork_bytes (g.B.Blocks.blocks l.blocks) l.mdb l.extents l.length) l.offset l.count
