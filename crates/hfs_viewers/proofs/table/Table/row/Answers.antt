use Rattle.hfs_viewers.proofs.LookedUp.{row_at, row_has}
use Rattle.hfs_viewers.proofs.table.Table.row.Goals as goal

pub returns-clause-entry : goal.returns-clause-entry
returns-clause-entry c = row_at c.args.self.now c.requires c.args.id c.get.result c.get.ensures.value

pub returns-clause-has : goal.returns-clause-has
returns-clause-has c = row_has c.args.self.now c.requires c.args.id c.get.result c.get.ensures.value
