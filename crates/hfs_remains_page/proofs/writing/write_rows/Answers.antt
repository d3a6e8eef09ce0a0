-- Row by row.
use Rattle.std.proofs.Common.{refl, arith}
use Rattle.hfs_fields.proofs.OutcomeLemmas.{on_err, on_err_then, on_ok}
use Rattle.hfs_remains_page.specs.Rows.{rows_text}
use Rattle.hfs_remains_page.proofs.GatherLemmas.{all_out, last_front, row_front, row_more}
use Rattle.hfs_remains_page.proofs.writing.write_rows.Goals as goal

pub returns-in_err-gather_row-clause-part : goal.returns-in_err-gather_row-clause-part
returns-in_err-gather_row-clause-part g c =
    on_err _ _ (row_front c.args.items.now.base c.args.items.now.found.now c.args.steps.now (g.W.Write.contents c.args.writer.now) (rows_text c.args.items.now.base c.args.items.now.found.now 0 c.args.steps.now)
    c.loop-i.i c.loop-i.opened _ _ _ _ c.loop-i.text.items c.loop-i-test.true refl c.loop-i.invariant c.in_err-gather_row.ensures.part)

pub loop-i-preserved : goal.loop-i-preserved
loop-i-preserved g c =
    row_more c.args.items.now.base c.args.items.now.found.now c.args.steps.now (g.W.Write.contents c.args.writer.now) (rows_text c.args.items.now.base c.args.items.now.found.now 0 c.args.steps.now)
    c.loop-i.i c.loop-i.opened _ _ _ _ _ c.loop-i.text.items c.gather_row.new.text.items c.loop-i-test.true refl c.loop-i.invariant
    c.in_ok-gather_row.ensures.gathered c.open_behind-opened.ensures

pub returns-clause-written : goal.returns-clause-written
returns-clause-written g c =
    on_ok _ _ _ (all_out c.args.items.now.base c.args.items.now.found.now c.args.steps.now (g.W.Write.contents c.args.writer.now) (rows_text c.args.items.now.base c.args.items.now.found.now 0 c.args.steps.now)
    c.loop-i.i c.loop-i.opened (g.W.Write.contents c.loop-i.writer) (g.W.Write.contents c.put_ends.new.writer) c.loop-i.text.items
    (omega (arith, c.loop-i-test.false)) c.loop-i.invariant) c.put_ends.ensures.written

pub returns-clause-part : goal.returns-clause-part
returns-clause-part g c =
    on_err_then _ _ _ (last_front c.args.items.now.base c.args.items.now.found.now c.args.steps.now (g.W.Write.contents c.args.writer.now) (rows_text c.args.items.now.base c.args.items.now.found.now 0 c.args.steps.now)
    c.loop-i.i c.loop-i.opened (g.W.Write.contents c.loop-i.writer) (g.W.Write.contents c.put_ends.new.writer) c.loop-i.text.items
    (omega (arith, c.loop-i-test.false)) c.loop-i.invariant) c.put_ends.ensures.part
