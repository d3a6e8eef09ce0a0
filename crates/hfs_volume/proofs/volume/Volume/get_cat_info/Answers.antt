use Rattle.std.proofs.Common.{◌∙◌}
use Rattle.hfs_items.proofs.ReplyLemmas.{cat_infos}
use Rattle.hfs_volume.proofs.volume.Volume.get_cat_info.Goals as goal

pub returns : goal.returns
returns c = c.get_cat_info.ensures ∙ cat_infos _ _ _ c.catalog_nodes.ensures.entries c.args.dir c.args.name.now
