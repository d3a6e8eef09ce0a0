use Rattle.std.proofs.Common.{subst}
use Rattle.hfs_viewers.specs.Tables.{items_of, IsKindOf}
use Rattle.hfs_viewers.proofs.LookedUp.{told_file}
use Rattle.hfs_viewers.proofs.table.Table.info.Goals as goal

pub returns-in-File : goal.returns-in-File
returns-in-File c = told_file c.args.self.now c.requires.table c.args.id c.args.row.now c.in-File.file c.len.result c.len-in-File.result c.len.ensures c.len-in-File.ensures c.in-File.is (subst (IsKindOf (items_of c.args.self.now) c.args.self.now.mdb c.args.id) c.in-File.is c.requires.row)
