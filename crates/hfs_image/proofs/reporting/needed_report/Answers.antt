-- By the image's length.
use Rattle.std.proofs.Common.{◌≡◌, Some, sym, subst, rules}
use Rattle.hfs_check.specs.declared.reported.Report.{Report}
use Rattle.hfs_check.specs.Report.{report_of}
use Rattle.hfs_image.specs.Known.{OfKnown}
use Rattle.hfs_image.proofs.Reported.{ok-so, reports-large, reports-short, reports-right}
use Rattle.hfs_image.proofs.reporting.needed_report.Goals as goal

pub returns-then-len-gt2147483648-clause-report : goal.returns-then-len-gt2147483648-clause-report
returns-then-len-gt2147483648-clause-report g c =
    subst (λ (r : Report). OfKnown (g.S.BlockSource.image c.args.source.now) c.args.len (λ bytes. r ≡ report_of bytes)) (sym c.refused_report.ensures)
    (reports-large (g.S.BlockSource.image c.args.source.now) c.args.len (search rules))

pub returns-then-len-lt1536-clause-report : goal.returns-then-len-lt1536-clause-report
returns-then-len-lt1536-clause-report g c =
    subst (λ (r : Report). OfKnown (g.S.BlockSource.image c.args.source.now) c.args.len (λ bytes. r ≡ report_of bytes)) (sym c.refused_report-then-len-lt1536.ensures)
    (reports-short (g.S.BlockSource.image c.args.source.now) c.args.len (search rules) (search rules))

pub returns-clause-report : goal.returns-clause-report
returns-clause-report g c =
    ok-so c.gathered_report.result (reports-right (g.S.BlockSource.image c.args.source.now) c.args.len (search rules) (search rules)) c.gathered_report.ensures.report

pub returns-then-len-gt2147483648-clause-each : goal.returns-then-len-gt2147483648-clause-each
returns-then-len-gt2147483648-clause-each g c = λ image h.
    subst (λ (r : Report). OfKnown (Some image) c.args.len (λ bytes. r ≡ report_of bytes)) (sym c.refused_report.ensures)
    (reports-large (Some image) c.args.len (search rules))

pub returns-then-len-lt1536-clause-each : goal.returns-then-len-lt1536-clause-each
returns-then-len-lt1536-clause-each g c = λ image h.
    subst (λ (r : Report). OfKnown (Some image) c.args.len (λ bytes. r ≡ report_of bytes)) (sym c.refused_report-then-len-lt1536.ensures)
    (reports-short (Some image) c.args.len (search rules) (search rules))

pub returns-clause-each : goal.returns-clause-each
returns-clause-each g c =
    ok-so c.gathered_report.result
    (λ (report : Report) each image h. reports-right (Some image) c.args.len (search rules) (search rules) report (each image h)) c.gathered_report.ensures.each
