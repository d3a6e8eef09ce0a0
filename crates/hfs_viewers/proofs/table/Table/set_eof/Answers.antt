-- The row of the chosen file shows its first bytes, with zeros after them.
use Rattle.hfs_fields.proofs.OutcomeLemmas.{on_err}
use Rattle.hfs_model.specs.Forks.{resized}
use Rattle.hfs_model.specs.ForkCalls.{set_eof}
use Rattle.hfs_viewers.specs.Tables.{item_of}
use Rattle.hfs_viewers.proofs.Left.{refused}
use Rattle.hfs_viewers.proofs.ForkLemmas.{edited, kept}
use Rattle.hfs_viewers.proofs.table.Table.set_eof.Goals as goal

pub returns-in-Err-clause-ok : goal.returns-in-Err-clause-ok
unfolding set_eof
returns-in-Err-clause-ok c = refused c.args.self.now _ c.to_set_eof.result c.in-Err.field-0 _ c.args.now c.requires c.to_set_eof.ensures.choice c.in-Err.is

pub returns-in_err-edit_fork-clause-err : goal.returns-in_err-edit_fork-clause-err
returns-in_err-edit_fork-clause-err c =
    let t = c.args.self.now in
    on_err _ _ (kept t c.requires c.edit_fork.new.rows c.args.fork c.in-Ok.found.id (item_of t.base t.mdb c.in-Ok.found.row.now) c.in-Ok.ensures.found c.in_err-edit_fork.ensures.err)

pub returns-clause-ok : goal.returns-clause-ok
unfolding set_eof
returns-clause-ok c =
    let t = c.args.self.now in
    edited t c.requires c.edit_fork.new.rows t.mdb.allocation_block_size c.args.fork (resized c.args.length) _ c.to_set_eof.result c.in-Ok.found c.args.now
    c.to_set_eof.ensures.choice c.in-Ok.is c.in-Ok.ensures.found c.in_ok-edit_fork.ensures.ok
