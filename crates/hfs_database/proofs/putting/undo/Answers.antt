-- After a rollback none is under way, as long as the disk is clean.
use Rattle.hfs_database.proofs.Ending.{still_begun}
use Rattle.hfs_database.proofs.putting.undo.Goals as goal

pub returns-in-Ok-2-clause-fails : goal.returns-in-Ok-2-clause-fails
returns-in-Ok-2-clause-fails g c =
    still_begun g.S.Store c.args.conn.now c.execute.new.self c.is_autocommit.result c.is_autocommit.ensures.value c.if-is_autocommit.false c.if-is_autocommit-2.ensures.value
    c.in-Ok.field-0 (λ clean. c.in-Ok.ensures.runs clean)
