-- What was gathered is reported as the image is.
use Rattle.std.proofs.Common.{◌∙◌, Some}
use Rattle.hfs_check.specs.Report.{report_in}
use Rattle.hfs_source.specs.Sparse.{sparse}
use Rattle.hfs_image.proofs.Reported.{gathered-reports}
use Rattle.hfs_check.proofs.LawsProved.{no_blocks_fault}
use Rattle.hfs_image.proofs.LawsProved.{gathered_is_enough}
use Rattle.hfs_image.proofs.reporting.gathered_report.Goals as goal

pub returns-in-Ok-clause-report : goal.returns-in-Ok-clause-report
returns-in-Ok-clause-report g c =
    gathered-reports no_blocks_fault gathered_is_enough (g.S.BlockSource.image c.args.source.now) c.args.count c.in_ok-read.read
    c.in_ok-read.ensures.needed c.in_ok-read.ensures.told c.in-Ok.report
    (c.in-Ok.ensures ∙ (λ i. report_in (c.volume.ensures.count i) (sparse (c.volume.ensures.read i))))

pub returns-in-Ok-clause-each : goal.returns-in-Ok-clause-each
returns-in-Ok-clause-each g c = λ image h.
    gathered-reports no_blocks_fault gathered_is_enough (Some image) c.args.count c.in_ok-read.read
    c.in_ok-read.ensures.needed (c.in_ok-read.ensures.seen image h) c.in-Ok.report
    (c.in-Ok.ensures ∙ (λ i. report_in (c.volume.ensures.count i) (sparse (c.volume.ensures.read i))))
