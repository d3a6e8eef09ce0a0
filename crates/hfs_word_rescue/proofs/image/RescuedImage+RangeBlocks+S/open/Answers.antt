-- Why an image wasn't looked at is told, and behind the look no read fails.
use Rattle.hfs_fields.proofs.OutcomeLemmas.{if_err}
use Rattle.hfs_image.specs.Failing.{SomeReadFails}
use Rattle.hfs_image.specs.Kept.{range_failures, range_images}
use Rattle.hfs_word_rescue.specs.Faults.{IsUnheld}
use Rattle.hfs_word_rescue.proofs.LookedLemmas.{unfailed, unlooked}
use Rattle.hfs_word_rescue.proofs.image.RescuedImage+RangeBlocks+S.open.Goals as goal

pub returns-in-Ok-clause-none : goal.returns-in-Ok-clause-none
returns-in-Ok-clause-none g c =
    let Images = range_images g.S.PlacedBytes.Holds in
    let source = c.args.source.blocks.bytes in
    let failed : Type 0 = SomeReadFails (Images source) (range_failures g.S.PlacedBytes.Fails source) in
    if_err c.rescued_image.result (λ back. IsUnheld (Images back.source.blocks.bytes) ⊥ back.fault)
    (λ back. IsUnheld (Images back.source.blocks.bytes) failed back.fault)
    (λ back is. unfailed (Images back.source.blocks.bytes) failed back.fault is) c.rescued_image.ensures.none

pub returns-in-Err-clause-none : goal.returns-in-Err-clause-none
returns-in-Err-clause-none g c =
    let Images = range_images g.S.PlacedBytes.Holds in
    let source = c.args.source.blocks.bytes in
    let back = c.in-Err.field-0 in
    unlooked (Images back.source.blocks.bytes) (SomeReadFails (Images source) (range_failures g.S.PlacedBytes.Fails source))
    back.fault c.fault_of-fault.result c.fault_of-fault.ensures c.in-Err.ensures.failed
