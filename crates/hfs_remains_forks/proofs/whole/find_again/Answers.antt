-- What was said of the images that held before is said of those that hold now.
use Rattle.hfs_remains_forks.proofs.LookLemmas.{looked_again}
use Rattle.hfs_remains_forks.proofs.whole.find_again.Goals as goal

pub returns-clause-looked : goal.returns-clause-looked
returns-clause-looked g c =
    looked_again (g.S.PlacedBlocks.Holds c.args.source.blocks) (g.S.PlacedBlocks.Holds c.in_ok-source.field-0.source.blocks) c.args.len c.args.report
    c.in_ok-source.field-0.found c.in_ok-source.ensures.narrows c.requires.long c.requires.report c.in_ok-source.ensures.found
