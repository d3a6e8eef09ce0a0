-- The rows so far were noted, and the reader stands behind them.
use Rattle.std.proofs.Common.{◌≡◌, ◌<◌, ℕ, List, Some}
use Rattle.csv.specs.Reading.{Reached, Ready, default_config, source_of, strip_bom}
use Rattle.csv.specs.declared.parser.State.TheVariants as st
use Rattle.csv.specs.declared.reader.Trim.TheVariants as trim
use Rattle.hfs_put_sources.specs.Later.{Tells, last_told}
use Rattle.hfs_put_sources.specs.Told.{told_by_row}
use Rattle.hfs_put_sources.proofs.facts_table.note_table.Given as goal

abbrev pub invariant-loop-row : goal.invariant-loop-row
invariant-loop-row l =
    (l.row-iterator.rdr.trim ≡ trim.None) × Ready l.row-iterator.rdr × (0 < l.row-iterator.left) × (l.row-iterator.rdr.config ≡ default_config)
    × (left : List ℕ) × (source_of (λ s. Some s.now) l.row-iterator.rdr ≡ Some left)
    × (rows : List (List (List ℕ))) × Reached default_config st.StartRecord (strip_bom l.fn.text) rows l.row-iterator.rdr.state left
    × Tells (λ path. last_told (told_by_row l.fn.front path) rows) l.fn.facts l.facts
