use Rattle.std.proofs.Common.{sym, ◌∙◌}
use Rattle.hfs_viewers.proofs.Gone.{item_count}
use Rattle.hfs_viewers.proofs.table.Table.item_count.Goals as goal

pub returns : goal.returns
returns c = c.len.ensures.len ∙ sym (item_count c.args.self.now c.requires)
