-- Up to the first line feed, or all.
use Rattle.std.proofs.Common.{◌∙◌, sym}
use Rattle.hfs_scripts.proofs.FirstLine.{lines_of-first, lines_of-last}
use Rattle.hfs_scripts.proofs.reading.first_line.Goals as goal

pub returns-in-Some-clause-lines : goal.returns-in-Some-clause-lines
returns-in-Some-clause-lines c = lines_of-first c.args.bytes.now c.in-Some.end (sym c.in-Some.is ∙ c.line_feed.ensures)

pub returns-in-None-clause-lines : goal.returns-in-None-clause-lines
returns-in-None-clause-lines c = lines_of-last c.args.bytes.now c.requires (sym c.in-None.is ∙ c.line_feed.ensures)
