-- what went out, what is gathered and the lines that are still to come make all
use Rattle.std.proofs.Common.{drop}
use Rattle.hfs_rescue_items.specs.Lines.{lines_of, remains_line, remains_text}
use Rattle.hfs_rescue_items.proofs.GatherLemmas.{IsBegun}
use Rattle.hfs_word_rescue.proofs.listing.write_lines.Given as goal

abbrev pub invariant-loop-i : goal.invariant-loop-i
invariant-loop-i g l =
    IsBegun (g.W.Write.contents l.fn.writer) (g.W.Write.contents l.writer) l.text.items (lines_of (remains_line l.found) l.i (drop l.i l.found.items.now)) (remains_text l.found)
