-- A read that fails where no volume was found is one of the image's, whatever the ranges.
use Rattle.std.proofs.Common.{length}
use Rattle.hfs_bag.specs.Parts.{LieIn, content_of}
use Rattle.hfs_word_collect.proofs.FailingReads.{picked_told_on}
use Rattle.hfs_word_collect.proofs.content.give_all.Goals as goal

pub returns-in-empty-clause-failed : goal.returns-in-empty-clause-failed
returns-in-empty-clause-failed g c =
    let image = g.K.PickedImage.image in
    let Holds = g.F.ImageFile.Holds c.give_lost.new.file image in
    let Fails = g.F.ImageFile.Fails c.args.file.now in
    picked_told_on (Holds × LieIn c.args.ranges.now (content_of c.args.layout image)) Holds (length image) Fails Fails c.give_lost.result (λ h. h.0) (λ place count fails. fails)
    c.give_lost.ensures.failed
