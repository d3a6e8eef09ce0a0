-- The header that was read tells of the data fork.
use Rattle.std.proofs.Common.{◌∙◌, ap}
use Rattle.hfs_source.specs.MacBinary.{data_fork_of}
use Rattle.hfs_source.proofs.Shorter.{data_fork_in-short, data_fork_in-long}
use Rattle.hfs_source.proofs.macbinary.data_fork_in.Goals as goal

pub returns-then-len-lt-HEAD-clause-fork : goal.returns-then-len-lt-HEAD-clause-fork
returns-then-len-lt-HEAD-clause-fork g c = λ file h. data_fork_in-short c.args.len file c.if-len-lt-HEAD.true

pub returns-clause-fork : goal.returns-clause-fork
returns-clause-fork g c = λ file h.
    c.data_fork_of.ensures.fork ∙ ap (data_fork_of c.args.len) (c.in_ok-head.ensures.bytes file h) ∙ data_fork_in-long c.args.len file c.if-len-lt-HEAD.false
