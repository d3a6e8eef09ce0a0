use Rattle.std.proofs.Common.{sym, Some, None}
use Rattle.hfs_viewers.specs.Tables.{item_of, items_of}
use Rattle.hfs_viewers.proofs.Moved.{taken_at}
use Rattle.hfs_viewers.proofs.table.Table.is_taken.Goals as goal

pub returns-in-None : goal.returns-in-None
returns-in-None c = let t = c.args.self.now in sym (taken_at (items_of t) t.by_name c.requires.names c.args.dir c.args.name.now c.args.id None c.in-None.ensures.entry)

pub returns-in-Some : goal.returns-in-Some
returns-in-Some c =
    let t = c.args.self.now in
    sym (taken_at (items_of t) t.by_name c.requires.names c.args.dir c.args.name.now c.args.id (Some (c.in-Some.found.id, item_of t.base t.mdb c.in-Some.found.row.now)) c.in-Some.ensures.entry)
