use Rattle.hfs_space.proofs.UsedMarks.{adds-file}
use Rattle.hfs_space.proofs.fork_checks.mark_file.Goals as goal

pub returns : goal.returns
returns c = adds-file c.args.overflow.now c.args.file.now c.args.marks.now c.mark_run.new.marks c.mark_run-2.new.marks c.mark_run.ensures c.mark_run-2.ensures
