use Rattle.std.proofs.Common.{sym, Some}
use Rattle.hfs_viewers.proofs.LookedUp.{row_at}
use Rattle.hfs_viewers.proofs.table.Table.row_among.Goals as goal

pub returns-in-Some-clause-entry : goal.returns-in-Some-clause-entry
returns-in-Some-clause-entry c = row_at c.args.self.now c.requires.table c.args.id (Some c.in-Some.row) (sym c.in-Some.ensures.found)

pub returns-in-Some-next_row-clause-entry : goal.returns-in-Some-next_row-clause-entry
returns-in-Some-next_row-clause-entry c = row_at c.args.self.now c.requires.table c.args.id (Some c.in-Some-next_row.row) (sym c.in-Some-next_row.ensures.found)
