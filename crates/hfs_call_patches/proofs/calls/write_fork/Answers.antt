-- What is made of the fork is what the call makes.
use Rattle.std.proofs.Common.{ap, arith, rules}
use Rattle.hfs_fields.specs.declared.file_record.ForkRecord.{ForkRecord}
use Rattle.hfs_call_patches.proofs.CallsMade as made
use Rattle.hfs_call_patches.proofs.calls.write_fork.Goals as goal

pub returns-in-Err : goal.returns-in-Err
returns-in-Err g c =
    let old = g.B.Blocks.blocks c.args.volume.now.blocks.now in
    let total = g.B.Blocks.total c.args.volume.now.blocks.now in
    let refused = made.write_fork_code total old c.requires.volume.sound (g.met.B.Blocks.whole c.args.volume.now.blocks.now) c.args.found c.args.write.now.fork c.args.write.now.offset c.args.write.now.bytes.now c.args.now c.in-Err.code c.in-Err.ensures.chooses in
    search rules

pub returns-in-Ok-2 : goal.returns-in-Ok-2
returns-in-Ok-2 g c =
    let old = g.B.Blocks.blocks c.args.volume.now.blocks.now in
    let total = g.B.Blocks.total c.args.volume.now.blocks.now in
    made.write_fork_change total old c.requires.volume.sound (g.met.B.Blocks.whole c.args.volume.now.blocks.now) c.args.found c.args.write.now.fork c.args.write.now.offset c.args.write.now.bytes.now c.args.now c.in-Ok.file c.in-Ok.ensures.within c.in-Ok.ensures.chooses c.max-length.result
    (let most = c.max-length.ensures in let same = ap (λ (r : ForkRecord). r.length) c.fork_of.ensures in omega (arith, most, same))
    c.in-Ok-2.change (made.has_resized _ _ _ _ _ _ _ _ _ _ c.in-Ok-2.is c.in_ok-change.ensures)

pub returns-in-Err-2 : goal.returns-in-Err-2
returns-in-Err-2 g c =
    let old = g.B.Blocks.blocks c.args.volume.now.blocks.now in
    let total = g.B.Blocks.total c.args.volume.now.blocks.now in
    made.write_fork_want total old c.requires.volume.sound (g.met.B.Blocks.whole c.args.volume.now.blocks.now) c.args.found c.args.write.now.fork c.args.write.now.offset c.args.write.now.bytes.now c.args.now c.in-Ok.file c.in-Ok.ensures.within c.in-Ok.ensures.chooses c.max-length.result
    (let most = c.max-length.ensures in let same = ap (λ (r : ForkRecord). r.length) c.fork_of.ensures in omega (arith, most, same))
    c.in-Err-2.want (made.is_wanting _ _ _ _ _ _ _ _ _ _ c.in-Err-2.is c.in_ok-change.ensures)
