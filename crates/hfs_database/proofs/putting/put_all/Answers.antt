-- What a fault means for the rows.
use Rattle.std.proofs.Common.{[]}
use Rattle.hfs_database.proofs.RefusalLemmas.{failed_commit, failed_undo, refused_and_undone}
use Rattle.hfs_database.proofs.RowLemmas.{left_by_commit}
use Rattle.hfs_database.proofs.putting.put_all.Goals as goal

pub returns-in-Err-commit-clause-fault : goal.returns-in-Err-commit-clause-fault
returns-in-Err-commit-clause-fault g c =
    let source = c.put_rows.new.source in
    failed_commit g.S.Store (g.R.RowSource.Begins c.args.source.now source []) (g.R.RowSource.Gives c.args.source.now source []) c.args.conn.now c.begin.new.conn c.put_rows.new.conn
    c.commit.new.conn c.in-Ok.ensures.begun c.begin.ensures.keeps c.in-Err-commit.fault c.in-Ok-put_rows.ensures.put c.put_rows.ensures.keeps c.in-Err-commit.ensures.fails

pub returns-in-Err-commit-clause-all_or_none : goal.returns-in-Err-commit-clause-all_or_none
returns-in-Err-commit-clause-all_or_none g c =
    left_by_commit g.S.Store (g.R.RowSource.Gives c.args.source.now c.put_rows.new.source []) c.args.conn.now c.begin.new.conn c.put_rows.new.conn c.commit.new.conn
    c.in-Ok.ensures.begun c.begin.ensures.keeps c.put_rows.ensures.keeps c.in-Ok-put_rows.ensures.put c.commit.ensures.leaves

pub returns-in-Ok-undo-clause-fault : goal.returns-in-Ok-undo-clause-fault
returns-in-Ok-undo-clause-fault g c =
    let source = c.put_rows.new.source in
    refused_and_undone g.S.Store (g.R.RowSource.Begins c.args.source.now source []) (g.R.RowSource.Gives c.args.source.now source []) c.args.conn.now c.begin.new.conn c.put_rows.new.conn
    c.undo.new.conn c.in-Ok.ensures.begun c.begin.ensures.keeps (g.R.RowSource.Fails c.args.source.now source) c.in-Err-put_rows.fault c.undo.ensures.undone c.undo.ensures.keeps c.in-Ok-undo.ensures.ended
    c.in-Err-put_rows.ensures.fault

pub returns-in-Err-undo-clause-fault : goal.returns-in-Err-undo-clause-fault
returns-in-Err-undo-clause-fault g c =
    let source = c.put_rows.new.source in
    failed_undo g.S.Store (g.R.RowSource.Begins c.args.source.now source []) (g.R.RowSource.Gives c.args.source.now source []) c.args.conn.now c.begin.new.conn c.put_rows.new.conn
    c.undo.new.conn c.in-Ok.ensures.begun c.begin.ensures.keeps c.in-Err-undo.fault c.put_rows.ensures.keeps c.undo.ensures.keeps c.in-Err-undo.ensures.fails
