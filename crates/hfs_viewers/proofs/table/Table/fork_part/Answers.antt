-- As many bytes as there are, and the fork's length.
use Rattle.std.proofs.Common.{◌∙◌}
use Rattle.hfs_viewers.proofs.LookedUp.{part_is}
use Rattle.hfs_viewers.proofs.table.Table.fork_part.Goals as goal

pub returns : goal.returns
returns c =
    c.part_reply.ensures
    ∙ part_is c.args.self.now c.requires.table c.args.fork.now c.len.result c.args.offset c.args.count c.in_ok-bytes.bytes.items c.requires.fork c.len.ensures c.in_ok-bytes.ensures
