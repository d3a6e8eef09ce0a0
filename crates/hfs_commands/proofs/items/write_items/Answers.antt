-- The table of the rows is that of each image.
use Rattle.std.proofs.KnownBytes.{Appends-nil}
use Rattle.hfs_commands.proofs.Tables.{written-each, part-each}
use Rattle.hfs_commands.proofs.items.write_items.Goals as goal

pub returns-in_default-clause-part : goal.returns-in_default-clause-part
returns-in_default-clause-part g c = λ image h. (0, Appends-nil (g.W.Write.contents c.args.writer.now))

pub returns-clause-written : goal.returns-clause-written
returns-clause-written g c =
    written-each c.args.format (g.S.PlacedBlocks.Holds c.args.image.now) c.in-Ok.inventory c.in-Ok.ensures c.write_table.result
    (g.W.Write.contents c.args.writer.now) (g.W.Write.contents c.write_table.new.writer) c.write_table.ensures.written

pub returns-clause-part : goal.returns-clause-part
returns-clause-part g c =
    part-each c.args.format (g.S.PlacedBlocks.Holds c.args.image.now) c.in-Ok.inventory c.in-Ok.ensures c.write_table.result
    (g.W.Write.contents c.args.writer.now) (g.W.Write.contents c.write_table.new.writer) c.write_table.ensures.part
