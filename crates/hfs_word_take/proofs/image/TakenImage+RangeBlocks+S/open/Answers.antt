-- What was opened is as long as before it was read.
use Rattle.hfs_image.proofs.KeptLemmas.{range_narrows}
use Rattle.hfs_word_take.proofs.image.TakenImage+RangeBlocks+S.open.Goals as goal

pub invariant_of-result-clause-len_is : goal.invariant_of-result-clause-len_is
invariant_of-result-clause-len_is g c = λ image holds.
    c.len-len.ensures image (range_narrows g.S.PlacedBytes.Holds c.args.source.blocks.bytes c.in-Ok.opened.bytes c.in-Ok.ensures.same image holds)
