-- A read failed while the image was opened, or later.
use Rattle.std.proofs.Common.{◌≡◌}
use Rattle.hfs_image.specs.declared.opening.NeededFault.TheVariants.{ReadFailed}
use Rattle.hfs_remains_forks.proofs.LookLemmas.{either_failed}
use Rattle.hfs_remains_forks.proofs.looking.look.Goals as goal

pub returns-in-Err-unopened_image-clause-failed : goal.returns-in-Err-unopened_image-clause-failed
returns-in-Err-unopened_image-clause-failed g c = λ told.
    either_failed (c.in-Err.back.fault ≡ ReadFailed) (g.S.PlacedBlocks.Holds c.args.source.blocks)
    (g.S.PlacedBlocks.Fails c.in-Err.back.source.blocks) (g.S.PlacedBlocks.Fails c.args.source.blocks)
    c.len-len.result c.len-len.ensures c.in-Err.ensures.back_later c.in-Err.ensures.failed (c.in-Err-unopened_image.ensures.failed told)
