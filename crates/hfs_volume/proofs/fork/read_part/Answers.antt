use Rattle.std.proofs.Common.{◌∙◌}
use Rattle.hfs_volume.proofs.Parts.{part_is}
use Rattle.hfs_volume.proofs.fork.read_part.Goals as goal

pub returns : goal.returns
returns g c =
    c.part_reply.ensures
    ∙ part_is (g.B.Blocks.blocks c.args.blocks.now) (g.B.Blocks.total c.args.blocks.now) (g.met.B.Blocks.whole c.args.blocks.now) c.args.mdb.now c.requires.area c.requires.whole_size
    _ c.deref.result.now c.args.fork.now.record.length c.args.offset c.args.count c.in_ok-bytes.bytes.items c.requires.fork.within c.requires.fork.room
    (c.deref.ensures.value ∙ c.in_ok-extents.ensures) c.in_ok-bytes.ensures
