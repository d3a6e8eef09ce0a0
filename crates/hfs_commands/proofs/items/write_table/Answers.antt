-- What went out, what is gathered and what is to come make the table.
use Rattle.hfs_fields.proofs.OutcomeLemmas.{on_err_then, on_err}
use Rattle.hfs_commands.specs.Items.{table_text}
use Rattle.hfs_commands.proofs.Tables.{begins, gathered, none-gathered, put-out, front, stopped}
use Rattle.hfs_commands.proofs.items.write_table.Goals as goal

pub loop-text-init : goal.loop-text-init
loop-text-init g c = begins c.args.format (g.W.Write.contents c.args.writer.now) c.in_ok-text.text.items c.args.inventory.now.left c.in_ok-text.ensures.head

pub returns-in_err-push_next-clause-part : goal.returns-in_err-push_next-clause-part
returns-in_err-push_next-clause-part g c =
    on_err _ _ (stopped c.args.format (g.W.Write.contents c.args.writer.now) (table_text c.args.format c.args.inventory.now.left) _ _ _ c.loop-text.invariant)

pub loop-text-preserved-in-Continue-branch-3 : goal.loop-text-preserved-in-Continue-branch-3
loop-text-preserved-in-Continue-branch-3 g c =
    let start = g.W.Write.contents c.args.writer.now in
    let whole = table_text c.args.format c.args.inventory.now.left in
    put-out c.args.format start whole _ _ c.push_next.new.text.items c.push_next.new.inventory.left
    (gathered c.args.format start whole c.in_ok-push_next.field-0 _ _ _ _ _ c.loop-text.invariant c.in_ok-push_next.ensures.row c.if-branch.true)
    c.in_ok-put_piece.ensures.written c.put_piece.new.text.items c.in_ok-put_piece.ensures.empty

pub returns-in_err-put_piece-clause-part : goal.returns-in_err-put_piece-clause-part
returns-in_err-put_piece-clause-part g c =
    let start = g.W.Write.contents c.args.writer.now in
    let whole = table_text c.args.format c.args.inventory.now.left in
    on_err _ _ (front c.args.format start whole _ _ c.push_next.new.text.items c.push_next.new.inventory.left
    (gathered c.args.format start whole c.in_ok-push_next.field-0 _ _ _ _ _ c.loop-text.invariant c.in_ok-push_next.ensures.row c.if-branch.true)
    c.in_err-put_piece.ensures.part)

pub returns-clause-part : goal.returns-clause-part
returns-clause-part g c =
    let start = g.W.Write.contents c.args.writer.now in
    let whole = table_text c.args.format c.args.inventory.now.left in
    on_err_then _ _ _ (front c.args.format start whole _ _ c.push_next.new.text.items c.loop-text.inventory.left
    (none-gathered c.args.format start whole c.in_ok-push_next.field-0 _ _ _ _ _ c.loop-text.invariant c.in_ok-push_next.ensures.row c.if-branch.false))
    c.put_piece-2.ensures.part
