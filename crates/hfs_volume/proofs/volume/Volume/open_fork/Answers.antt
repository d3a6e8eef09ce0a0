use Rattle.std.proofs.Common.{◌∙◌, ap, Ok, Err}
use Rattle.hfs_volume.specs.declared.open_fork.Opened.TheVariants as opened
use Rattle.hfs_volume.proofs.Seen.{found_forks, opened_is}
use Rattle.hfs_volume.proofs.volume.Volume.open_fork.Goals as goal

pub open_file-requires : goal.open_file-requires
open_file-requires c =
    found_forks c.args.self.now.current c.catalog_nodes.ensures.sound _ c.catalog_nodes.ensures.content c.catalog_nodes.ensures.entries c.args.dir c.args.name.now c.in-Ok.file c.in-Ok.ensures

pub returns-in-Err : goal.returns-in-Err
returns-in-Err c =
    opened_is c.args.self.now.current c.catalog_nodes.ensures.sound _ c.catalog_nodes.ensures.content c.catalog_nodes.ensures.entries c.args.dir c.args.name.now
    c.args.fork (Err c.in-Err.reply) c.in-Err.ensures

pub returns-in_ok-open_file-in-Ok : goal.returns-in_ok-open_file-in-Ok
returns-in_ok-open_file-in-Ok c =
    ap opened.Fork c.in_ok-open_file-in-Ok.ensures
    ∙ opened_is c.args.self.now.current c.catalog_nodes.ensures.sound _ c.catalog_nodes.ensures.content c.catalog_nodes.ensures.entries c.args.dir c.args.name.now
    c.args.fork (Ok c.in-Ok.file) c.in-Ok.ensures
