use Rattle.std.proofs.Common.{length}
use Rattle.hfs_commands.specs.Items.{table_text}
use Rattle.hfs_commands.proofs.Tables.{IsBegun}
use Rattle.hfs_commands.proofs.items.write_table.Given as goal

abbrev pub invariant-loop-text : goal.invariant-loop-text
invariant-loop-text g l =
    IsBegun l.format (g.W.Write.contents l.fn.writer) (g.W.Write.contents l.writer) l.text.items l.inventory.left (table_text l.format l.fn.inventory.left)

abbrev pub decreases-loop-text : goal.decreases-loop-text
decreases-loop-text g l = length l.inventory.left
