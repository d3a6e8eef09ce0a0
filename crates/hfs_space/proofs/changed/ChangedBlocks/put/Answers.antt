-- A flag is set where no block is kept; else the block is.
use Rattle.std.proofs.Common.{◌≡◌, None, rules}
use Rattle.hfs_blocks.specs.Layers.{changes}
use Rattle.hfs_space.proofs.AllBlocks.{put-flagged, put-kept, not-put}
use Rattle.hfs_space.proofs.changed.ChangedBlocks.put.Goals as goal

pub returns-then-is_blank-clause-written : goal.returns-then-is_blank-clause-written
returns-then-is_blank-clause-written c =
    let none : changes c.self.inside.kept c.args.n ≡ None = search rules in
    put-flagged c.args.self.now c.self.inside.kept c.self.inside.flags.items c.self.view_is c.args.n c.args.block.now c.flag_one.result c.flag_one.new.flags.items c.flag_one.ensures.set none
    (c.is_blank.ensures.same c.if-is_blank.true)

pub returns-then-is_blank-clause-kept : goal.returns-then-is_blank-clause-kept
returns-then-is_blank-clause-kept c =
    not-put c.args.self.now c.self.inside.kept c.self.inside.flags.items c.self.view_is c.args.n c.args.block.now c.flag_one.result c.flag_one.new.flags.items c.flag_one.ensures.same

pub returns-clause-written : goal.returns-clause-written
returns-clause-written c = put-kept c.args.self.now c.self.inside.kept c.self.inside.flags.items c.self.view_is c.args.n c.args.block.now c.put.result c.put.new.self c.put.ensures.written
