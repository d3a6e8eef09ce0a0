-- What is still to be read of a stream.
use Rattle.std.specs.Prelude.{ℕ, true, List, ◌++◌, length}
use Rattle.hfs_bag.specs.Forks.{ReadsOn, fork_rest}
use Rattle.hfs_remains.specs.declared.catalog.FoundRecord.{FoundRecord}
use Rattle.hfs_table.specs.Lines.{bag_head}
use Rattle.hfs_rescue_items.specs.declared.found.Found.{Found}
use Rattle.hfs_rescue_items.specs.declared.table_lines.Lines.{Lines}
use Rattle.hfs_rescue_items.specs.declared.reading.Reading.{Reading}
use Rattle.hfs_rescue_items.specs.declared.reading.Reading.TheVariants as reading
use Rattle.hfs_rescue_items.specs.Lines.{item_line, lines_of, remains_line}

abbrev pub lines_rest : (ℕ → FoundRecord → List ℕ) → Lines → List ℕ
lines_rest line lines = lines_of line lines.next lines.items.now

abbrev pub reading_rest : List ℕ → Found → Reading → List ℕ
reading_rest image found (reading.Fork fork) = fork_rest true image fork
reading_rest image found (reading.Table lines) = bag_head ++ lines_rest (item_line found) lines
reading_rest image found (reading.Items lines) = lines_rest (item_line found) lines
reading_rest image found (reading.Remains lines) = lines_rest (remains_line found) lines

-- how many bytes that is, of whatever image
abbrev pub reading_left : Found → Reading → ℕ
reading_left found (reading.Fork fork) = fork.left
reading_left found (reading.Table lines) = length (bag_head ++ lines_rest (item_line found) lines)
reading_left found (reading.Items lines) = length (lines_rest (item_line found) lines)
reading_left found (reading.Remains lines) = length (lines_rest (remains_line found) lines)

-- these are the next lines
abbrev pub ReadsLines : (ℕ → FoundRecord → List ℕ) → List ℕ → Lines → Lines → Type 0
ReadsLines line piece old new = ReadsOn piece (lines_rest line old) (lines_rest line new)
