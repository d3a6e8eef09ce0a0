-- What fails behind the data fork might have failed before.
use Rattle.hfs_word_collect.proofs.FailingReads.{read_handed_on}
use Rattle.hfs_word_collect.proofs.digests.fork_digests.Goals as goal

pub returns-in_err-resource_fork-clause-failed : goal.returns-in_err-resource_fork-clause-failed
returns-in_err-resource_fork-clause-failed g c =
    read_handed_on (g.S.PlacedBlocks.Holds c.fork_digest-2.new.image) (g.S.PlacedBlocks.Fails c.fork_digest.new.image) (g.S.PlacedBlocks.Fails c.args.image.now)
    c.from_residual-in_err-resource_fork.result c.in_err-resource_fork.field-0.0 c.in_ok-data_fork.ensures.later c.from_residual-in_err-resource_fork.ensures.1 c.in_err-resource_fork.ensures.failed
