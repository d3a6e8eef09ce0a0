-- What fails behind the data fork might have failed before.
use Rattle.hfs_word_collect.proofs.FailingReads.{read_handed_on}
use Rattle.hfs_word_collect.proofs.telling.told_item.Goals as goal

pub returns-in_err-resource_fork-clause-failed : goal.returns-in_err-resource_fork-clause-failed
returns-in_err-resource_fork-clause-failed g c =
    read_handed_on (g.S.PlacedBlocks.Holds c.told_fork-2.new.source.blocks) (g.S.PlacedBlocks.Fails c.told_fork.new.source.blocks) (g.S.PlacedBlocks.Fails c.args.source.now.blocks)
    c.from_residual-in_err-resource_fork.result c.in_err-resource_fork.field-0.0 c.in_ok-data_fork.ensures.later c.from_residual-in_err-resource_fork.ensures.1 c.in_err-resource_fork.ensures.failed
