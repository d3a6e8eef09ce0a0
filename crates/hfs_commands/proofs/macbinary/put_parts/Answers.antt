-- The header and both forks, filled up, are the file.
use Rattle.std.proofs.Common.{◌∙◌, ap}
use Rattle.hfs_fields.proofs.OutcomeLemmas.{on_err_then, on_ok, on_err}
use Rattle.hfs_encodings.specs.MacBinary.{macbinary_head_bytes}
use Rattle.hfs_commands.specs.MacBinaryFiles.{macbinary_head}
use Rattle.hfs_commands.proofs.WholeFiles.{bytes_first, bytes_second, bytes_third, bytes_whole}
use Rattle.hfs_commands.proofs.macbinary.put_parts.Goals as goal

pub returns-in_err-write_bytes-clause-part : goal.returns-in_err-write_bytes-clause-part
returns-in_err-write_bytes-clause-part g c =
    on_err _ _ (bytes_first (macbinary_head c.args.info.now) c.args.data.now c.args.resource.now c.bytes.result
    (c.bytes.ensures.bytes ∙ ap macbinary_head_bytes c.macbinary_head.ensures)
    (g.W.Write.contents c.args.writer.now) (g.W.Write.contents c.write_bytes.new.writer) c.in_err-write_bytes.ensures.part)

pub returns-in_err-put_filled-clause-part : goal.returns-in_err-put_filled-clause-part
returns-in_err-put_filled-clause-part g c =
    on_err _ _ (bytes_second (macbinary_head c.args.info.now) c.args.data.now c.args.resource.now c.bytes.result
    (c.bytes.ensures.bytes ∙ ap macbinary_head_bytes c.macbinary_head.ensures)
    (g.W.Write.contents c.args.writer.now) (g.W.Write.contents c.write_bytes.new.writer) (g.W.Write.contents c.put_filled.new.writer)
    c.in_ok-write_bytes.ensures.written c.in_err-put_filled.ensures.part)

pub returns-clause-written : goal.returns-clause-written
returns-clause-written g c =
    on_ok c.put_filled-2.result _ _
    (bytes_whole (macbinary_head c.args.info.now) c.args.data.now c.args.resource.now c.bytes.result
    (c.bytes.ensures.bytes ∙ ap macbinary_head_bytes c.macbinary_head.ensures)
    (g.W.Write.contents c.args.writer.now) (g.W.Write.contents c.write_bytes.new.writer) (g.W.Write.contents c.put_filled.new.writer)
    (g.W.Write.contents c.put_filled-2.new.writer) c.in_ok-write_bytes.ensures.written c.in_ok-put_filled.ensures.written)
    c.put_filled-2.ensures.written

pub returns-clause-part : goal.returns-clause-part
returns-clause-part g c =
    on_err_then c.put_filled-2.result _ _
    (bytes_third (macbinary_head c.args.info.now) c.args.data.now c.args.resource.now c.bytes.result
    (c.bytes.ensures.bytes ∙ ap macbinary_head_bytes c.macbinary_head.ensures)
    (g.W.Write.contents c.args.writer.now) (g.W.Write.contents c.write_bytes.new.writer) (g.W.Write.contents c.put_filled.new.writer)
    (g.W.Write.contents c.put_filled-2.new.writer) c.in_ok-write_bytes.ensures.written c.in_ok-put_filled.ensures.written)
    c.put_filled-2.ensures.part
