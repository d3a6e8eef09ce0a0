-- Line by line.
use Rattle.std.proofs.Common.{ℕ, List, refl, subst, sym, arith}
use Rattle.hfs_fields.proofs.OutcomeLemmas.{on_err, on_err_then, on_ok}
use Rattle.hfs_rescue_items.specs.Lines.{remains_line, remains_text}
use Rattle.hfs_word_rescue.proofs.ListLemmas.{all_out, begins, last_front, line_front, line_more}
use Rattle.hfs_rescue_items.proofs.GatherLemmas.{IsBegun}
use Rattle.hfs_word_rescue.proofs.listing.write_lines.Goals as goal

pub loop-i-init : goal.loop-i-init
loop-i-init g c =
    let start = g.W.Write.contents c.args.writer.now in
    let whole = remains_text c.args.found.now in
    subst (λ (text : List ℕ). IsBegun start start text whole whole) (sym c.new-text.ensures.items) (begins start whole)

pub returns-in_err-gather_line-clause-part : goal.returns-in_err-gather_line-clause-part
returns-in_err-gather_line-clause-part g c =
    on_err _ _ (line_front (remains_line c.args.found.now) c.args.found.now.items.now (g.W.Write.contents c.args.writer.now) (remains_text c.args.found.now) c.loop-i.i _ _
    (g.W.Write.contents c.loop-i.writer) (g.W.Write.contents c.gather_line.new.writer) c.loop-i.text.items c.loop-i-test.true refl c.loop-i.invariant c.in_err-gather_line.ensures.part)

pub loop-i-preserved : goal.loop-i-preserved
loop-i-preserved g c =
    line_more (remains_line c.args.found.now) c.args.found.now.items.now (g.W.Write.contents c.args.writer.now) (remains_text c.args.found.now) c.loop-i.i _ _
    (g.W.Write.contents c.loop-i.writer) (g.W.Write.contents c.gather_line.new.writer) c.loop-i.text.items c.gather_line.new.text.items c.loop-i-test.true refl c.loop-i.invariant
    c.in_ok-gather_line.ensures.gathered

pub returns-clause-written : goal.returns-clause-written
returns-clause-written g c =
    on_ok _ _ _ (all_out (remains_line c.args.found.now) c.args.found.now.items.now (g.W.Write.contents c.args.writer.now) (remains_text c.args.found.now) c.loop-i.i
    (g.W.Write.contents c.loop-i.writer) (g.W.Write.contents c.put_piece.new.writer) c.loop-i.text.items (omega (arith, c.loop-i-test.false)) c.loop-i.invariant) c.put_piece.ensures.written

pub returns-clause-part : goal.returns-clause-part
returns-clause-part g c =
    on_err_then _ _ _ (last_front (remains_line c.args.found.now) c.args.found.now.items.now (g.W.Write.contents c.args.writer.now) (remains_text c.args.found.now) c.loop-i.i
    (g.W.Write.contents c.loop-i.writer) (g.W.Write.contents c.put_piece.new.writer) c.loop-i.text.items (omega (arith, c.loop-i-test.false)) c.loop-i.invariant) c.put_piece.ensures.part
