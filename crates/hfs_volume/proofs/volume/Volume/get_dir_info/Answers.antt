use Rattle.std.proofs.Common.{◌∙◌}
use Rattle.hfs_items.proofs.ReplyLemmas.{dir_infos}
use Rattle.hfs_volume.proofs.volume.Volume.get_dir_info.Goals as goal

pub returns : goal.returns
returns c = c.get_dir_info.ensures ∙ dir_infos _ _ _ c.catalog_nodes.ensures.entries c.args.dir
