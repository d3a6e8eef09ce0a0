-- What was opened over the range that is kept is the range itself.
use Rattle.std.proofs.Common.{subst, sym}
use Rattle.hfs_image.specs.Failing.{SomeReadFails}
use Rattle.hfs_image.specs.Kept.{range_failures, range_images}
use Rattle.hfs_image.specs.Seen.{HasNoFault, IsRefusedBy}
use Rattle.hfs_source.specs.Images.{OfEach}
use Rattle.hfs_image.proofs.seen.ranges.open_picked.Goals as goal

pub returns-in-Ok-clause-sound : goal.returns-in-Ok-clause-sound
returns-in-Ok-clause-sound g c =
    subst (λ range. OfEach (range_images g.S.PlacedBytes.Holds range) HasNoFault) (sym c.into_range.ensures.range) c.in-Ok.ensures.sound

pub returns-in-Err-clause-refused : goal.returns-in-Err-clause-refused
returns-in-Err-clause-refused g c =
    subst (λ range. OfEach (range_images g.S.PlacedBytes.Holds range) (IsRefusedBy c.in-Err.field-0.fault)) (sym c.into_blocks-source.ensures.range)
    c.in-Err.ensures.refused

pub returns-in-Err-clause-failed : goal.returns-in-Err-clause-failed
returns-in-Err-clause-failed g c = λ told.
    subst (λ range. SomeReadFails (range_images g.S.PlacedBytes.Holds range) (range_failures g.S.PlacedBytes.Fails range)) c.blocks-2.ensures
    (c.in-Err.ensures.failed told)
