-- A question commits nothing in a transaction.
use Rattle.sqlite.specs.Values.{bound}
use Rattle.hfs_database.proofs.Keeping.{commit_rows, keeps_inside}
use Rattle.hfs_database.proofs.statements.run.Goals as goal

pub returns-clause-keeps : goal.returns-clause-keeps
returns-clause-keeps g c =
    let text = c.args.text.now in
    let params = bound c.args.parameters.now in
    keeps_inside g.S.Store c.args.conn.now c.query_all.new.self c.is_autocommit.result text params c.is_autocommit.ensures.value c.if-is_autocommit.false c.query_all.ensures.survives
    (commit_rows g.S.Store c.args.conn.now c.query_all.new.self text params (λ rows. rows.items) c.query_all.result c.query_all.ensures.ok c.query_all.ensures.err)
