-- what went out, what is gathered and the rows that are still to come make all
use Rattle.std.proofs.Common.{drop}
use Rattle.hfs_remains_page.specs.Rows.{rows_text}
use Rattle.hfs_rescue_items.proofs.GatherLemmas.{IsBegun}
use Rattle.hfs_remains_page.proofs.writing.write_rows.Given as goal

abbrev pub invariant-loop-i : goal.invariant-loop-i
invariant-loop-i g l =
    IsBegun (g.W.Write.contents l.fn.writer) (g.W.Write.contents l.writer) l.text.items (rows_text l.items.base l.items.found.now l.opened (drop l.i l.steps))
    (rows_text l.items.base l.items.found.now 0 l.steps)
