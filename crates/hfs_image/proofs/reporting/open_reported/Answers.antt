-- By the image's length.
use Rattle.std.proofs.Common.{Some, rules}
use Rattle.hfs_image.specs.declared.reporting.ReportedVolume.{ReportedVolume}
use Rattle.hfs_image.proofs.Refused.{length-refused, err-so, opened-sound}
use Rattle.hfs_image.proofs.Reported.{length-large, length-short, length-right, ok-so, reports-right}
use Rattle.hfs_check.proofs.LawsProved.{no_blocks_fault}
use Rattle.hfs_image.proofs.LawsProved.{gathered_is_enough}
use Rattle.hfs_check.specs.declared.mount_fault.MountFault.TheVariants as fault
use Rattle.hfs_image.proofs.SeenStart.{errs-each, reported-each, reports-each}
use Rattle.hfs_image.proofs.reporting.open_reported.Goals as goal

pub returns-then-len-gt2147483648-clause-refused :
    goal.returns-then-len-gt2147483648-clause-refused
returns-then-len-gt2147483648-clause-refused g c =
    length-refused fault.TooLarge (g.S.BlockSource.image c.args.source.now) c.args.len (length-large c.args.len (search rules))

pub returns-then-len-lt1536-clause-refused : goal.returns-then-len-lt1536-clause-refused
returns-then-len-lt1536-clause-refused g c =
    length-refused fault.Short (g.S.BlockSource.image c.args.source.now) c.args.len (length-short c.args.len (search rules) (search rules))

pub returns-clause-refused : goal.returns-clause-refused
returns-clause-refused g c =
    err-so (g.S.BlockSource.image c.args.source.now) c.args.len (length-right c.args.len (search rules) (search rules)) c.report_opened.result
    c.report_opened.ensures.refused

pub returns-clause-report : goal.returns-clause-report
returns-clause-report g c =
    ok-so c.report_opened.result
    (λ (found : ReportedVolume).
    reports-right (g.S.BlockSource.image c.args.source.now) c.args.len (search rules) (search rules) found.report) c.report_opened.ensures.report

pub returns-clause-sound : goal.returns-clause-sound
returns-clause-sound g c =
    ok-so c.report_opened.result
    (λ (found : ReportedVolume) opened.
    opened-sound no_blocks_fault gathered_is_enough (g.S.BlockSource.image c.args.source.now) c.args.len
    (length-right c.args.len (search rules) (search rules)) found.volume opened) c.report_opened.ensures.opened

pub returns-then-len-gt2147483648-clause-each_refused :
    goal.returns-then-len-gt2147483648-clause-each_refused
returns-then-len-gt2147483648-clause-each_refused g c = λ image h.
    length-refused fault.TooLarge (Some image) c.args.len (length-large c.args.len (search rules))

pub returns-then-len-lt1536-clause-each_refused : goal.returns-then-len-lt1536-clause-each_refused
returns-then-len-lt1536-clause-each_refused g c = λ image h.
    length-refused fault.Short (Some image) c.args.len (length-short c.args.len (search rules) (search rules))

pub returns-clause-each_refused : goal.returns-clause-each_refused
returns-clause-each_refused g c =
    errs-each (g.S.BlockSource.Holds c.report_opened.new.source) c.args.len (length-right c.args.len (search rules) (search rules)) c.report_opened.result
    c.report_opened.ensures.each_refused

pub returns-clause-each_report : goal.returns-clause-each_report
returns-clause-each_report g c =
    reports-each (g.S.BlockSource.Holds c.report_opened.new.source) c.args.len (search rules) (search rules) c.report_opened.result c.report_opened.ensures.each_report

pub returns-clause-each_sound : goal.returns-clause-each_sound
returns-clause-each_sound g c =
    reported-each no_blocks_fault gathered_is_enough (g.S.BlockSource.Holds c.report_opened.new.source) c.args.len (length-right c.args.len (search rules) (search rules))
    (g.S.BlockSource.image c.args.source.now) c.report_opened.result c.report_opened.ensures.opened c.report_opened.ensures.seen
