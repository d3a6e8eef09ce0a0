-- Up to the first line feed, or all.
use Rattle.std.proofs.Common.{◌∙◌, sym}
use Rattle.hfs_put_sources.proofs.LinesRead.{first-line, last-line}
use Rattle.hfs_put_sources.proofs.lines.next_line.Goals as goal

pub returns-in-Some-clause-lines : goal.returns-in-Some-clause-lines
returns-in-Some-clause-lines c = first-line c.args.text.now c.in-Some.end (sym c.in-Some.is ∙ c.line_feed.ensures)

pub returns-in-None-clause-lines : goal.returns-in-None-clause-lines
returns-in-None-clause-lines c = last-line c.args.text.now c.requires (sym c.in-None.is ∙ c.line_feed.ensures)
