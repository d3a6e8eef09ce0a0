-- What stands before the rows, the rows, and what stands after them go out one after the other.
use Rattle.std.proofs.Common.{◌∙◌}
use Rattle.hfs_page.proofs.Written.{page-is, page-none, page-first, page-second, page-third, page-all}
use Rattle.hfs_page.proofs.disk.write_page.Goals as goal

pub returns-in_err-items-clause-part : goal.returns-in_err-items-clause-part
returns-in_err-items-clause-part g c = page-none _ _ _

pub returns-in_err-put_piece-clause-part : goal.returns-in_err-put_piece-clause-part
returns-in_err-put_piece-clause-part g c =
    let is = page-is c.args.texts.now (g.B.Blocks.total c.args.blocks.now) (g.B.Blocks.blocks c.args.blocks.now) c.deref-2.result.now c.in-Ok-back_in.back.items
    c.count.result c.args.volume.now.mdb c.in-Ok.records.items c.in_ok-items.items.left c.count.ensures c.requires.mdb
    (c.deref-2.ensures.value ∙ c.in-Ok-front.ensures) c.in-Ok.ensures c.in_ok-items.ensures c.in-Ok-back_in.ensures in
    page-first (g.W.Write.contents c.args.writer.now) _ _ _ _ is _ _ c.in_err-put_piece.ensures.part

pub returns-in_err-write_rows-clause-part : goal.returns-in_err-write_rows-clause-part
returns-in_err-write_rows-clause-part g c =
    let is = page-is c.args.texts.now (g.B.Blocks.total c.args.blocks.now) (g.B.Blocks.blocks c.args.blocks.now) c.deref-2.result.now c.in-Ok-back_in.back.items
    c.count.result c.args.volume.now.mdb c.in-Ok.records.items c.in_ok-items.items.left c.count.ensures c.requires.mdb
    (c.deref-2.ensures.value ∙ c.in-Ok-front.ensures) c.in-Ok.ensures c.in_ok-items.ensures c.in-Ok-back_in.ensures in
    page-second (g.W.Write.contents c.args.writer.now) _ _ _ _ is _ _ _ c.in_ok-put_piece.ensures.written c.in_err-write_rows.ensures.part

pub returns-in_err-put_piece-2-clause-part : goal.returns-in_err-put_piece-2-clause-part
returns-in_err-put_piece-2-clause-part g c =
    let is = page-is c.args.texts.now (g.B.Blocks.total c.args.blocks.now) (g.B.Blocks.blocks c.args.blocks.now) c.deref-2.result.now c.deref-3.result.now
    c.count.result c.args.volume.now.mdb c.in-Ok.records.items c.in_ok-items.items.left c.count.ensures c.requires.mdb
    (c.deref-2.ensures.value ∙ c.in-Ok-front.ensures) c.in-Ok.ensures c.in_ok-items.ensures (c.deref-3.ensures.value ∙ c.in-Ok-back_in.ensures) in
    page-third (g.W.Write.contents c.args.writer.now) _ _ _ _ is _ _ _ _ c.in_ok-put_piece.ensures.written c.in_ok-write_rows.ensures.written
    c.in_err-put_piece-2.ensures.part

pub returns-clause-written : goal.returns-clause-written
returns-clause-written g c =
    let is = page-is c.args.texts.now (g.B.Blocks.total c.args.blocks.now) (g.B.Blocks.blocks c.args.blocks.now) c.deref-2.result.now c.deref-3.result.now
    c.count.result c.args.volume.now.mdb c.in-Ok.records.items c.in_ok-items.items.left c.count.ensures c.requires.mdb
    (c.deref-2.ensures.value ∙ c.in-Ok-front.ensures) c.in-Ok.ensures c.in_ok-items.ensures (c.deref-3.ensures.value ∙ c.in-Ok-back_in.ensures) in
    page-all (g.W.Write.contents c.args.writer.now) _ _ _ _ is _ _ _ c.in_ok-put_piece.ensures.written c.in_ok-write_rows.ensures.written
    c.in_ok-put_piece-2.ensures.written
