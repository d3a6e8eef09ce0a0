-- What stands before the rows, the rows, and what stands after them go out one after the other.
use Rattle.std.proofs.Common.{◌∙◌}
use Rattle.hfs_page.proofs.Written.{page-first, page-second, page-third, page-all}
use Rattle.hfs_remains_page.proofs.PageLemmas.{page-is}
use Rattle.hfs_remains_page.proofs.page.write_remains_page.Goals as goal

pub returns-in_err-put_piece-clause-part : goal.returns-in_err-put_piece-clause-part
returns-in_err-put_piece-clause-part g c =
    let is = page-is c.args.texts.now c.args.fault.now.refusal.now c.args.fault.now.meaning.now c.args.found.now c.deref.result.now c.in-Ok-back.back.items c.in-Ok-tree_order.steps.items
    (c.deref.ensures.value ∙ c.in-Ok.ensures) c.in-Ok-tree_order.ensures c.in-Ok-back.ensures in
    page-first (g.W.Write.contents c.args.writer.now) _ _ _ _ is _ _ c.in_err-put_piece.ensures.part

pub returns-in_err-write_rows-clause-part : goal.returns-in_err-write_rows-clause-part
returns-in_err-write_rows-clause-part g c =
    let is = page-is c.args.texts.now c.args.fault.now.refusal.now c.args.fault.now.meaning.now c.args.found.now c.deref.result.now c.in-Ok-back.back.items c.deref-2.result.now
    (c.deref.ensures.value ∙ c.in-Ok.ensures) (c.deref-2.ensures.value ∙ c.in-Ok-tree_order.ensures) c.in-Ok-back.ensures in
    page-second (g.W.Write.contents c.args.writer.now) _ _ _ _ is _ _ _ c.in_ok-put_piece.ensures.written c.in_err-write_rows.ensures.part

pub returns-in_err-put_piece-2-clause-part : goal.returns-in_err-put_piece-2-clause-part
returns-in_err-put_piece-2-clause-part g c =
    let is = page-is c.args.texts.now c.args.fault.now.refusal.now c.args.fault.now.meaning.now c.args.found.now c.deref.result.now c.deref-3.result.now c.deref-2.result.now
    (c.deref.ensures.value ∙ c.in-Ok.ensures) (c.deref-2.ensures.value ∙ c.in-Ok-tree_order.ensures) (c.deref-3.ensures.value ∙ c.in-Ok-back.ensures) in
    page-third (g.W.Write.contents c.args.writer.now) _ _ _ _ is _ _ _ _ c.in_ok-put_piece.ensures.written c.in_ok-write_rows.ensures.written
    c.in_err-put_piece-2.ensures.part

pub returns-clause-written : goal.returns-clause-written
returns-clause-written g c =
    let is = page-is c.args.texts.now c.args.fault.now.refusal.now c.args.fault.now.meaning.now c.args.found.now c.deref.result.now c.deref-3.result.now c.deref-2.result.now
    (c.deref.ensures.value ∙ c.in-Ok.ensures) (c.deref-2.ensures.value ∙ c.in-Ok-tree_order.ensures) (c.deref-3.ensures.value ∙ c.in-Ok-back.ensures) in
    page-all (g.W.Write.contents c.args.writer.now) _ _ _ _ is _ _ _ c.in_ok-put_piece.ensures.written c.in_ok-write_rows.ensures.written
    c.in_ok-put_piece-2.ensures.written
