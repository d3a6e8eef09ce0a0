-- A read of the whole content that fails is one of the image's bytes.
use Rattle.std.proofs.Common.{length, subst, sym}
use Rattle.hfs_bag.specs.Failing.{SomeFailOf}
use Rattle.hfs_word_collect.specs.Faults.{IsFaultOf}
use Rattle.hfs_word_collect.proofs.FailingReads.{fault_of_sparse, part_picked, too_large}
use Rattle.hfs_word_collect.proofs.content.find_ranges.Goals as goal

pub returns-in_default-clause-failed : goal.returns-in_default-clause-failed
returns-in_default-clause-failed g c =
    let image = g.K.PickedImage.image in
    too_large (g.F.ImageFile.Holds c.open.new.self image) c.args.layout image (g.F.ImageFile.Fails c.args.file.now) (λ h. c.in_default.ensures.none (c.in_ok-source.ensures.noted image h))

pub returns-clause-failed : goal.returns-clause-failed
returns-clause-failed g c =
    let image = g.K.PickedImage.image in
    let Fails = SomeFailOf (g.F.ImageFile.Holds c.note.new.self image) (length image) (g.F.ImageFile.Fails c.args.file.now) in
    subst (IsFaultOf Fails) (sym c.from.ensures)
    (fault_of_sparse Fails c.in-Err.fault
    (λ told. part_picked g.S.PlacedBytes.Holds g.S.PlacedBytes.Fails image c.in-Some.part c.find_contents-ranges.new.source c.in-Some.ensures.inside c.find_contents-ranges.ensures.held
    c.in_ok-source.source (g.F.ImageFile.Holds c.note.new.self image) (g.F.ImageFile.Fails c.args.file.now) c.in-Some.ensures.source
    (λ h. subst (λ s. g.S.PlacedBytes.Holds s image) c.source.ensures (c.note.ensures.noted image h)) c.in_ok-source.ensures.fails (c.in-Err.ensures.failed told)))
