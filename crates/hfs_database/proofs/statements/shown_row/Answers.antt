-- A question commits nothing in a transaction.
use Rattle.sqlite.specs.Held.{state}
use Rattle.sqlite.specs.Values.{bound}
use Rattle.hfs_database.proofs.Keeping.{commit_row, keeps_inside}
use Rattle.hfs_database.proofs.statements.shown_row.Goals as goal

pub returns-in-Ok-clause-keeps : goal.returns-in-Ok-clause-keeps
returns-in-Ok-clause-keeps g c =
    let text = c.args.text.now in
    let params = bound c.args.parameters.now in
    keeps_inside g.S.Store c.args.conn.now c.query_row.new.self c.is_autocommit.result text params c.is_autocommit.ensures.value c.if-is_autocommit.false c.query_row.ensures.survives
    (λ clean within. commit_row text params (state g.S.Store c.args.conn.now) (state g.S.Store c.query_row.new.self) c.query_row.result within (c.query_row.ensures.row clean))

pub returns-in-Err-clause-keeps : goal.returns-in-Err-clause-keeps
returns-in-Err-clause-keeps g c =
    let text = c.args.text.now in
    let params = bound c.args.parameters.now in
    keeps_inside g.S.Store c.args.conn.now c.query_row.new.self c.is_autocommit.result text params c.is_autocommit.ensures.value c.if-is_autocommit.false c.query_row.ensures.survives
    (λ clean within. commit_row text params (state g.S.Store c.args.conn.now) (state g.S.Store c.query_row.new.self) c.query_row.result within (c.query_row.ensures.row clean))
