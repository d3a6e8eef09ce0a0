-- A refused image has the report of its fault.
use Rattle.hfs_remains_forks.proofs.LookLemmas.{refused_looked}
use Rattle.hfs_remains_forks.proofs.whole.refused_looked.Goals as goal

pub returns-clause-looked : goal.returns-clause-looked
returns-clause-looked g c =
    let image = c.args.image in
    refused_looked (g.S.PlacedBlocks.Holds image.source.blocks) image.len image.why c.refused_report-report.result image.found c.requires c.refused_report-report.ensures

pub returns-clause-few : goal.returns-clause-few
returns-clause-few g c = c.args.image.few
