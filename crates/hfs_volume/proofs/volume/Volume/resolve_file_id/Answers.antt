use Rattle.std.proofs.Common.{◌∙◌}
use Rattle.hfs_items.proofs.ReplyLemmas.{places}
use Rattle.hfs_volume.proofs.volume.Volume.resolve_file_id.Goals as goal

pub returns : goal.returns
returns c = c.resolve_file_id.ensures ∙ places _ _ _ c.catalog_nodes.ensures.entries c.args.id
