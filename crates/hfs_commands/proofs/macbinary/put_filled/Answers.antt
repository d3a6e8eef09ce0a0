-- The fork and as many zeros as its length wants are the fork, filled up.
use Rattle.hfs_fields.proofs.OutcomeLemmas.{on_err_then, on_ok, on_err}
use Rattle.hfs_commands.proofs.Rows.{filled_first, filled_next, filled_whole}
use Rattle.hfs_commands.proofs.macbinary.put_filled.Goals as goal

pub returns-in_err-write_bytes-clause-part : goal.returns-in_err-write_bytes-clause-part
returns-in_err-write_bytes-clause-part g c =
    on_err _ _ (filled_first (g.W.Write.contents c.args.writer.now) (g.W.Write.contents c.write_bytes.new.writer) c.args.fork.now c.in_err-write_bytes.ensures.part)

pub returns-clause-written : goal.returns-clause-written
returns-clause-written g c =
    on_ok c.write_zeros.result _ _
    (filled_whole (g.W.Write.contents c.args.writer.now) (g.W.Write.contents c.write_bytes.new.writer) (g.W.Write.contents c.write_zeros.new.writer) c.args.fork.now
    c.padding.result c.padding.ensures.padding c.in_ok-write_bytes.ensures.written)
    c.write_zeros.ensures.written

pub returns-clause-part : goal.returns-clause-part
returns-clause-part g c =
    on_err_then c.write_zeros.result _ _
    (filled_next (g.W.Write.contents c.args.writer.now) (g.W.Write.contents c.write_bytes.new.writer) (g.W.Write.contents c.write_zeros.new.writer) c.args.fork.now
    c.padding.result c.padding.ensures.padding c.in_ok-write_bytes.ensures.written)
    c.write_zeros.ensures.part
