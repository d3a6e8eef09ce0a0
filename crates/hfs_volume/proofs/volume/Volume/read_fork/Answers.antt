use Rattle.std.proofs.Common.{◌≡◌, ◌∙◌, sym, subst, Ok, Err}
use Rattle.std.specs.Prelude.{IfOk}
use Rattle.std.proofs.lemmas.Bool.{lt-ltb}
use Rattle.hfs_model.specs.declared.reply.Reply.{Reply}
use Rattle.hfs_model.specs.Children.{entries_of}
use Rattle.hfs_check.specs.VolumeOf.{volume_of}
use Rattle.hfs_volume.proofs.FileForks.{too_many}
use Rattle.hfs_volume.proofs.Seen.{found_forks, part_answered}
use Rattle.hfs_volume.proofs.volume.Volume.read_fork.Goals as goal

pub returns-then-count-gt65536 : goal.returns-then-count-gt65536
returns-then-count-gt65536 c =
    c.refusal.ensures
    ∙ sym (too_many (entries_of (volume_of c.args.self.now.current)) c.args.dir c.args.name.now c.args.fork c.args.offset c.args.count (lt-ltb 65536 c.args.count c.if-count-gt65536.true))

pub fork_part-requires : goal.fork_part-requires
fork_part-requires c =
    found_forks c.args.self.now.current c.catalog_nodes.ensures.sound _ c.catalog_nodes.ensures.content c.catalog_nodes.ensures.entries c.args.dir c.args.name.now c.in-Ok.file c.in-Ok.ensures

pub returns-in-Ok : goal.returns-in-Ok
returns-in-Ok c =
    let same = part_answered c.args.self.now.current c.catalog_nodes.ensures.sound _ c.catalog_nodes.ensures.content c.catalog_nodes.ensures.entries c.args.dir c.args.name.now
    c.args.fork (Ok c.in-Ok.file) c.in-Ok.ensures c.args.offset c.args.count c.if-count-gt65536.false in
    subst (λ (r : Reply). IfOk c.fork_part.result (λ reply. reply ≡ r)) same c.fork_part.ensures

pub returns-in-Err : goal.returns-in-Err
returns-in-Err c =
    part_answered c.args.self.now.current c.catalog_nodes.ensures.sound _ c.catalog_nodes.ensures.content c.catalog_nodes.ensures.entries c.args.dir c.args.name.now
    c.args.fork (Err c.in-Err.reply) c.in-Err.ensures c.args.offset c.args.count c.if-count-gt65536.false
