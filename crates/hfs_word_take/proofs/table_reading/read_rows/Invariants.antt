-- the text of the piece and the rows that are to come are all
use Rattle.std.proofs.Common.{◌≡◌, ◌++◌, length}
use Rattle.hfs_word_take.specs.Items.{rows_text}
use Rattle.hfs_word_take.proofs.table_reading.read_rows.Given as goal

abbrev pub invariant-loop-piece : goal.invariant-loop-piece
invariant-loop-piece l = l.piece.items ++ rows_text l.rows.left ≡ rows_text l.fn.rows.left

abbrev pub decreases-loop-piece : goal.decreases-loop-piece
decreases-loop-piece l = length l.rows.left
