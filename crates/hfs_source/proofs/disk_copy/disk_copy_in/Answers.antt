-- The header that was read tells of the data.
use Rattle.std.proofs.Common.{◌∙◌, ap}
use Rattle.hfs_source.specs.DiskCopy.{disk_copy_of}
use Rattle.hfs_source.proofs.Shorter.{disk_copy_in-short, disk_copy_in-long}
use Rattle.hfs_source.proofs.disk_copy.disk_copy_in.Goals as goal

pub returns-then-range-lt-HEAD-clause-found : goal.returns-then-range-lt-HEAD-clause-found
returns-then-range-lt-HEAD-clause-found g c = λ file h. disk_copy_in-short c.args.range file c.if-range-lt-HEAD.true

pub returns-clause-found : goal.returns-clause-found
returns-clause-found g c = λ file h.
    c.disk_copy_of.ensures ∙ ap (disk_copy_of c.args.range) (c.in_ok-head.ensures.bytes file h) ∙ disk_copy_in-long c.args.range file c.if-range-lt-HEAD.false
