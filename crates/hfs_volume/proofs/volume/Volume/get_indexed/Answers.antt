use Rattle.std.proofs.Common.{◌∙◌}
use Rattle.hfs_items.proofs.ReplyLemmas.{indexes}
use Rattle.hfs_volume.proofs.volume.Volume.get_indexed.Goals as goal

pub returns : goal.returns
returns c = c.get_indexed.ensures ∙ indexes _ _ _ c.catalog_nodes.ensures.entries c.args.dir c.args.index
