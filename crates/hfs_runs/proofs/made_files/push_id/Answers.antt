-- The call names an item, or none.
use Rattle.std.proofs.Common.{sym}
use Rattle.hfs_check.specs.Parts.{catalog_in}
use Rattle.hfs_source.specs.Sparse.{sparse}
use Rattle.hfs_runs.proofs.MadeFiles.{ids-none, ids-put, ids-same}
use Rattle.hfs_runs.proofs.made_files.push_id.Goals as goal

pub returns-in_default : goal.returns-in_default
returns-in_default c = ids-none (catalog_in (sparse c.args.read.now)) c.args.ids.now.entries c.args.call.now c.in_default.ensures

pub returns-in_default-find_id : goal.returns-in_default-find_id
returns-in_default-find_id c =
    ids-same (catalog_in (sparse c.args.read.now)) c.args.ids.now.entries c.args.call.now c.in-Some.dir c.in-Some.name.now c.in-Some.ensures (sym c.in_default-find_id.ensures)

pub returns : goal.returns
returns c =
    ids-put (catalog_in (sparse c.args.read.now)) c.args.ids.now.entries c.insert.new.self.entries c.args.call.now c.in-Some.dir c.in-Some.name.now c.in-Some-find_id.id tt
    c.in-Some.ensures (sym c.in-Some-find_id.ensures) c.in_ok-insert.ensures.updates.0
