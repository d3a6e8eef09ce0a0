-- What was gathered is reported as the image is, and its fault is the image's.
use Rattle.std.proofs.Common.{◌≡◌, ◌∙◌, Some, subst, sym}
use Rattle.hfs_blocks.specs.Layers.{Numbered}
use Rattle.hfs_source.specs.Seen.{IsSeen}
use Rattle.hfs_check.specs.Report.{report_in}
use Rattle.hfs_source.specs.Sparse.{sparse}
use Rattle.hfs_image.proofs.OpenedAt.{opened-from}
use Rattle.hfs_image.proofs.Refused.{first-refused}
use Rattle.hfs_image.proofs.Reported.{gathered-reports, report_in-fault}
use Rattle.hfs_image.proofs.LawsProved.{gathered_is_enough}
use Rattle.hfs_check.proofs.LawsProved.{no_blocks_fault}
use Rattle.hfs_image.proofs.reporting.report_opened.Goals as goal

pub returns-in-Some-clause-refused : goal.returns-in-Some-clause-refused
returns-in-Some-clause-refused g c =
    let is : c.in-Ok-report_blocks.report ≡ report_in c.args.count (sparse c.in-Ok.read) =
    c.in-Ok-report_blocks.ensures ∙ (λ i. report_in (c.volume.ensures.count i) (sparse (c.volume.ensures.read i))) in
    first-refused gathered_is_enough (g.S.BlockSource.image c.args.source.now) c.args.count c.in-Ok.read c.in-Ok.ensures.needed c.in-Ok.ensures.told
    c.in-Some.why (sym (report_in-fault c.args.count (sparse c.in-Ok.read) c.in-Ok-report_blocks.report is) ∙ c.in-Some.is)

pub sound_volume-requires-clause-sound : goal.sound_volume-requires-clause-sound
sound_volume-requires-clause-sound g c =
    let is : c.in-Ok-report_blocks.report ≡ report_in c.args.count (sparse c.in-Ok.read) =
    c.in-Ok-report_blocks.ensures ∙ (λ i. report_in (c.volume.ensures.count i) (sparse (c.volume.ensures.read i))) in
    (no_blocks_fault c.args.count (sparse c.in-Ok.read)).0
    (sym (report_in-fault c.args.count (sparse c.in-Ok.read) c.in-Ok-report_blocks.report is) ∙ c.in-None.is)

pub returns-in-Ok-sound_volume-clause-opened : goal.returns-in-Ok-sound_volume-clause-opened
returns-in-Ok-sound_volume-clause-opened g c =
    let is : c.in-Ok-report_blocks.report ≡ report_in c.args.count (sparse c.in-Ok.read) =
    c.in-Ok-report_blocks.ensures ∙ (λ i. report_in (c.volume.ensures.count i) (sparse (c.volume.ensures.read i))) in
    let sound = (no_blocks_fault c.args.count (sparse c.in-Ok.read)).0
    (sym (report_in-fault c.args.count (sparse c.in-Ok.read) c.in-Ok-report_blocks.report is) ∙ c.in-None.is) in
    opened-from (g.S.BlockSource.image c.args.source.now) c.args.count c.in-Ok.read c.in-Ok.ensures.needed c.in-Ok.ensures.told
    sound c.in-Ok-sound_volume.volume c.in-Ok-sound_volume.ensures.read c.in-Ok-sound_volume.ensures.count
    c.in-Ok-sound_volume.ensures.directory c.in-Ok-sound_volume.ensures.trees

pub returns-in-Ok-sound_volume-clause-report : goal.returns-in-Ok-sound_volume-clause-report
returns-in-Ok-sound_volume-clause-report g c =
    gathered-reports no_blocks_fault gathered_is_enough (g.S.BlockSource.image c.args.source.now) c.args.count c.in-Ok.read
    c.in-Ok.ensures.needed c.in-Ok.ensures.told c.in-Ok-report_blocks.report
    (c.in-Ok-report_blocks.ensures ∙ (λ i. report_in (c.volume.ensures.count i) (sparse (c.volume.ensures.read i))))

pub returns-in-Some-clause-each_refused : goal.returns-in-Some-clause-each_refused
returns-in-Some-clause-each_refused g c = λ image h.
    let is : c.in-Ok-report_blocks.report ≡ report_in c.args.count (sparse c.in-Ok.read) =
    c.in-Ok-report_blocks.ensures ∙ (λ i. report_in (c.volume.ensures.count i) (sparse (c.volume.ensures.read i))) in
    first-refused gathered_is_enough (Some image) c.args.count c.in-Ok.read c.in-Ok.ensures.needed (c.in-Ok.ensures.seen image h)
    c.in-Some.why (sym (report_in-fault c.args.count (sparse c.in-Ok.read) c.in-Ok-report_blocks.report is) ∙ c.in-Some.is)

pub returns-in-Ok-sound_volume-clause-seen : goal.returns-in-Ok-sound_volume-clause-seen
returns-in-Ok-sound_volume-clause-seen g c =
    subst (λ (read : Numbered). IsSeen (g.S.BlockSource.Holds c.gather_needed.new.source) read) (sym c.in-Ok-sound_volume.ensures.read) c.in-Ok.ensures.seen

pub returns-in-Ok-sound_volume-clause-each_report : goal.returns-in-Ok-sound_volume-clause-each_report
returns-in-Ok-sound_volume-clause-each_report g c = λ image h.
    gathered-reports no_blocks_fault gathered_is_enough (Some image) c.args.count c.in-Ok.read
    c.in-Ok.ensures.needed (c.in-Ok.ensures.seen image h) c.in-Ok-report_blocks.report
    (c.in-Ok-report_blocks.ensures ∙ (λ i. report_in (c.volume.ensures.count i) (sparse (c.volume.ensures.read i))))
