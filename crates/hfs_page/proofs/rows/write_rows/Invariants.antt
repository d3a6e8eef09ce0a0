-- what went out, what is gathered and what is to come make the rows
use Rattle.std.proofs.Common.{length}
use Rattle.hfs_page.specs.Items.{rows_text}
use Rattle.hfs_page.proofs.Written.{IsBegun}
use Rattle.hfs_page.proofs.rows.write_rows.Given as goal

abbrev pub invariant-loop-text : goal.invariant-loop-text
invariant-loop-text g l =
    IsBegun l.fn.base (g.W.Write.contents l.fn.writer) (g.W.Write.contents l.writer) l.text.items l.opened l.items.left (rows_text l.fn.base 0 l.fn.items.left)

abbrev pub decreases-loop-text : goal.decreases-loop-text
decreases-loop-text g l = length l.items.left
