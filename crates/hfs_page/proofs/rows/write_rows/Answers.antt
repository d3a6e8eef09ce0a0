-- What went out, what is gathered and what is to come make the rows.
use Rattle.std.proofs.Common.{◌∙◌}
use Rattle.hfs_page.specs.Items.{rows_text}
use Rattle.hfs_page.proofs.Written.{gathered, put-out, front, stopped, last-part}
use Rattle.hfs_page.proofs.rows.write_rows.Goals as goal

pub returns-in_err-behind-clause-part : goal.returns-in_err-behind-clause-part
returns-in_err-behind-clause-part g c =
    stopped c.args.base (g.W.Write.contents c.args.writer.now) (rows_text c.args.base 0 c.args.items.now.left) _ _ _ _ _ c.loop-text.invariant

pub loop-text-preserved-in-Continue-branch-3 : goal.loop-text-preserved-in-Continue-branch-3
loop-text-preserved-in-Continue-branch-3 g c =
    let start = g.W.Write.contents c.args.writer.now in
    let whole = rows_text c.args.base 0 c.args.items.now.left in
    put-out c.args.base start whole _ _ c.push_next_row.new.text.items _ c.push_next_row.new.items.left
    (gathered c.args.base start whole _ _ _ _ _ _ _ c.in_ok-behind.field-0 c.loop-text.invariant c.in_ok-behind.ensures c.in-Some.is)
    c.in_ok-put_text.ensures.written c.put_text.new.text.items c.in_ok-put_text.ensures.empty

pub returns-in_err-put_text-clause-part : goal.returns-in_err-put_text-clause-part
returns-in_err-put_text-clause-part g c =
    let start = g.W.Write.contents c.args.writer.now in
    let whole = rows_text c.args.base 0 c.args.items.now.left in
    front c.args.base start whole _ _ _ c.push_next_row.new.text.items _ c.push_next_row.new.items.left
    (gathered c.args.base start whole _ _ _ _ _ _ _ c.in_ok-behind.field-0 c.loop-text.invariant c.in_ok-behind.ensures c.in-Some.is)
    c.in_err-put_text.ensures.part

pub returns-in_err-push_ends-clause-part : goal.returns-in_err-push_ends-clause-part
returns-in_err-push_ends-clause-part g c =
    stopped c.args.base (g.W.Write.contents c.args.writer.now) (rows_text c.args.base 0 c.args.items.now.left) _ _ _ _ _ c.loop-text.invariant

pub returns-in_err-put_piece-clause-part : goal.returns-in_err-put_piece-clause-part
returns-in_err-put_piece-clause-part g c =
    last-part c.args.base (g.W.Write.contents c.args.writer.now) (rows_text c.args.base 0 c.args.items.now.left) _ _ _ _ _ c.deref.result.now _ _ _ c.in_ok-behind.field-0
    c.loop-text.invariant c.in_ok-behind.ensures c.in_default.not-Some (c.deref.ensures.value ∙ c.in_ok-push_ends.ensures)
    c.in_err-put_piece.ensures.part
