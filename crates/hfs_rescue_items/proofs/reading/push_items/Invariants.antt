-- the text of the piece and the lines that are to come are all
use Rattle.std.proofs.Common.{◌≡◌, ◌++◌, length}
use Rattle.hfs_rescue_items.specs.Lines.{item_line}
use Rattle.hfs_rescue_items.specs.Reading.{lines_rest}
use Rattle.hfs_rescue_items.proofs.reading.push_items.Given as goal

abbrev pub invariant-loop-lines : goal.invariant-loop-lines
invariant-loop-lines l = l.piece.items ++ lines_rest (item_line l.fn.found) l.lines ≡ lines_rest (item_line l.fn.found) l.fn.lines

abbrev pub decreases-loop-lines : goal.decreases-loop-lines
decreases-loop-lines l = length l.lines.items.now
