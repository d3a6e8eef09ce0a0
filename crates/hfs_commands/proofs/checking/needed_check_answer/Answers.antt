-- The report is that of each image that has the bytes which were read.
use Rattle.std.proofs.Common.{◌∙◌, ap}
use Rattle.hfs_check.specs.declared.reported.Report.{Report}
use Rattle.hfs_commands.specs.Checks.{check_lines, check_status}
use Rattle.hfs_commands.proofs.checking.needed_check_answer.Goals as goal

pub returns-in-Ok-clause-fault : goal.returns-in-Ok-clause-fault
returns-in-Ok-clause-fault g c = λ image h. c.in-Ok.ensures.fault ∙ ap (λ (r : Report). r.fault) (c.in_ok-source.ensures.report image h)

pub returns-in-Ok-clause-status : goal.returns-in-Ok-clause-status
returns-in-Ok-clause-status g c = λ image h. c.in-Ok.ensures.status ∙ ap check_status (c.in_ok-source.ensures.report image h)

pub returns-in-Ok-clause-lines : goal.returns-in-Ok-clause-lines
returns-in-Ok-clause-lines g c = λ image h. c.in-Ok.ensures.lines ∙ ap check_lines (c.in_ok-source.ensures.report image h)
