-- All parts are read of the same file.
use Rattle.std.proofs.Common.{◌∙◌, sym}
use Rattle.hfs_encodings.proofs.Entries.{apple_double_some}
use Rattle.hfs_encodings.proofs.incoming_apple_double.read_apple_double.Goals as goal

pub returns-clause-found : goal.returns-clause-found
returns-clause-found g c = λ file h.
    let before = c.in_ok-dates.ensures.held file h in
    let first = c.in_ok-finder.ensures.held file before in
    apple_double_some c.len-len.result file c.in_ok-finder.finder c.in_ok-dates.dates c.fork_of.result c.in-Some.parts
    (c.len-len.ensures file (c.in_ok-parts.ensures.held file first)) (sym c.in-Some.is ∙ c.in_ok-parts.ensures.found file first)
    (c.in_ok-finder.ensures.finder file before) (c.in_ok-dates.ensures.dates file h) c.fork_of.ensures
