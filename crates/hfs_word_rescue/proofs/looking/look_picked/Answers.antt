-- A read that failed of the range that is kept is one of the range itself.
use Rattle.std.proofs.Common.{subst}
use Rattle.hfs_image.specs.Failing.{SomeReadFails}
use Rattle.hfs_image.specs.Kept.{range_failures, range_images}
use Rattle.hfs_word_rescue.proofs.looking.look_picked.Goals as goal

pub returns-in-Err-clause-failed : goal.returns-in-Err-clause-failed
returns-in-Err-clause-failed g c = λ told.
    subst (λ range. SomeReadFails (range_images g.S.PlacedBytes.Holds range) (range_failures g.S.PlacedBytes.Fails range)) c.blocks-2.ensures
    (c.in-Err.ensures.failed told)
