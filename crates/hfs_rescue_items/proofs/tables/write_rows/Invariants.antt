-- what went out, what is gathered and the rows that are still to come make all
use Rattle.std.proofs.Common.{drop}
use Rattle.hfs_rescue_items.specs.Lines.{lines_of}
use Rattle.hfs_rescue_items.specs.Rows.{selected_row, selected_text}
use Rattle.hfs_rescue_items.proofs.GatherLemmas.{IsBegun}
use Rattle.hfs_rescue_items.proofs.tables.write_rows.Given as goal

abbrev pub invariant-loop-i : goal.invariant-loop-i
invariant-loop-i g l =
    IsBegun (g.W.Write.contents l.fn.writer) (g.W.Write.contents l.writer) l.text.items (lines_of (selected_row l.selection l.found) l.i (drop l.i l.found.items.now))
    (selected_text l.selection l.found)
