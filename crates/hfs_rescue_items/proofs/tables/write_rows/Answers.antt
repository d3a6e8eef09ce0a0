-- Row by row.
use Rattle.std.proofs.Common.{ℕ, List, ◌++◌, refl, subst, sym, arith}
use Rattle.hfs_fields.proofs.OutcomeLemmas.{on_err, on_err_then, on_ok}
use Rattle.hfs_rescue_items.specs.Lines.{lines_of}
use Rattle.hfs_rescue_items.specs.Rows.{selected_head, selected_row, selected_text}
use Rattle.hfs_rescue_items.proofs.GatherLemmas.{IsBegun, all_out, begins, last_front, row_front, row_more}
use Rattle.hfs_rescue_items.proofs.tables.write_rows.Goals as goal

pub loop-i-init : goal.loop-i-init
unfolding selected_text
loop-i-init g c =
    let start = g.W.Write.contents c.args.writer.now in
    let left = lines_of (selected_row c.args.selection c.args.found.now) 0 c.args.found.now.items.now in
    subst (λ (head : List ℕ). IsBegun start start c.in_ok-text.text.items left (head ++ left)) c.in_ok-text.ensures (begins start c.in_ok-text.text.items left)

pub returns-in_err-gather_row-clause-part : goal.returns-in_err-gather_row-clause-part
returns-in_err-gather_row-clause-part g c =
    on_err _ _ (row_front (selected_row c.args.selection c.args.found.now) c.args.found.now.items.now (g.W.Write.contents c.args.writer.now)
    (selected_text c.args.selection c.args.found.now) c.loop-i.i _ _ (g.W.Write.contents c.loop-i.writer) (g.W.Write.contents c.gather_row.new.writer) c.loop-i.text.items
    c.loop-i-test.true refl c.loop-i.invariant c.in_err-gather_row.ensures.part)

pub loop-i-preserved : goal.loop-i-preserved
loop-i-preserved g c =
    row_more (selected_row c.args.selection c.args.found.now) c.args.found.now.items.now (g.W.Write.contents c.args.writer.now)
    (selected_text c.args.selection c.args.found.now) c.loop-i.i _ _ (g.W.Write.contents c.loop-i.writer) (g.W.Write.contents c.gather_row.new.writer) c.loop-i.text.items
    c.gather_row.new.text.items c.loop-i-test.true refl c.loop-i.invariant c.in_ok-gather_row.ensures.gathered

pub returns-clause-written : goal.returns-clause-written
returns-clause-written g c =
    on_ok _ _ _ (all_out (selected_row c.args.selection c.args.found.now) c.args.found.now.items.now (g.W.Write.contents c.args.writer.now)
    (selected_text c.args.selection c.args.found.now) c.loop-i.i (g.W.Write.contents c.loop-i.writer) (g.W.Write.contents c.put_piece.new.writer) c.loop-i.text.items
    (omega (arith, c.loop-i-test.false)) c.loop-i.invariant) c.put_piece.ensures.written

pub returns-clause-part : goal.returns-clause-part
returns-clause-part g c =
    on_err_then _ _ _ (last_front (selected_row c.args.selection c.args.found.now) c.args.found.now.items.now (g.W.Write.contents c.args.writer.now)
    (selected_text c.args.selection c.args.found.now) c.loop-i.i (g.W.Write.contents c.loop-i.writer) (g.W.Write.contents c.put_piece.new.writer) c.loop-i.text.items
    (omega (arith, c.loop-i-test.false)) c.loop-i.invariant) c.put_piece.ensures.part
