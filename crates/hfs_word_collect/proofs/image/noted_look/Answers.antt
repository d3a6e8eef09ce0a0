-- A read that fails is one of the bytes that were noted.
use Rattle.std.proofs.Common.{length}
use Rattle.hfs_bag.specs.Failing.{SomeFail, SomeFailOf}
use Rattle.hfs_word_collect.proofs.FailingReads.{fault_told, picked_of}
use Rattle.hfs_word_collect.proofs.image.noted_look.Goals as goal

pub returns-clause-failed : goal.returns-clause-failed
returns-clause-failed g c =
    let image = g.K.PickedImage.image in
    let Has = g.F.ImageFile.Holds c.note.new.self image in
    let Holds = g.S.PlacedBytes.Holds c.look_at-look.new.source in
    let Fails = g.S.PlacedBytes.Fails c.in_ok-source.source in
    fault_told (SomeFail Holds Fails) (SomeFailOf Has (length image) (g.F.ImageFile.Fails c.args.file.now)) c.look_at-look.result
    (picked_of Has Holds image Fails (g.F.ImageFile.Fails c.args.file.now) (c.note.ensures.noted image) c.in_ok-source.ensures.fails) c.look_at-look.ensures.failed
