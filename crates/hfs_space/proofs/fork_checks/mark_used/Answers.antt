use Rattle.hfs_space.proofs.UsedMarks.{adds-catalog}
use Rattle.hfs_space.proofs.fork_checks.mark_used.Goals as goal

pub returns : goal.returns
returns c = adds-catalog c.args.overflow.now c.args.mdb.now c.args.files.now c.args.marks.now c.mark_run.new.marks c.mark_files.new.marks c.mark_run.ensures c.mark_files.ensures
