use Rattle.hfs_space.proofs.UsedMarks.{adds-nothing, adds-more, adds-all}
use Rattle.hfs_space.proofs.fork_checks.mark_files.Goals as goal

pub loop-file-init : goal.loop-file-init
loop-file-init c = adds-nothing c.args.overflow.now c.args.marks.now

pub loop-file-preserved : goal.loop-file-preserved
loop-file-preserved c = adds-more c.args.overflow.now c.args.files.now c.loop-file.file-index _ c.args.marks.now c.loop-file.marks c.mark_file.new.marks c.loop-file-test.true c.loop-file.invariant c.mark_file.ensures

pub returns : goal.returns
returns c = adds-all c.args.overflow.now c.args.files.now c.loop-file.file-index c.args.marks.now c.loop-file.marks c.loop-file-test.false c.loop-file.invariant
