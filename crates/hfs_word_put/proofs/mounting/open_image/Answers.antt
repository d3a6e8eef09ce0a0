-- What was read is a volume on which calls can be made.
use Rattle.std.proofs.Common.{◌/◌, None}
use Rattle.std.proofs.lemmas.Result.{IfOk-at_ok}
use Rattle.hfs_check.specs.Sound.{IsSound}
use Rattle.hfs_source.specs.Seen.{IsSeen}
use Rattle.hfs_volume.specs.Image.{copy_of}
use Rattle.hfs_copy.specs.Opened.{IsWorkingOf}
use Rattle.hfs_word_put.proofs.Copies.{runnable}
use Rattle.hfs_word_put.proofs.mounting.open_image.Goals as goal

pub returns-in-Ok-clause-opened : goal.returns-in-Ok-clause-opened
returns-in-Ok-clause-opened g c =
    let told = c.open_source-opened in
    runnable (g.S.BlockSource.Holds told.result.1) c.args.len c.in-Ok.working
    (IfOk-at_ok (λ volume. IsWorkingOf None (c.args.len / 512) volume) c.in-Ok.is told.ensures.mountable)
    (IfOk-at_ok (λ volume. IsSeen (g.S.BlockSource.Holds told.result.1) volume.read) c.in-Ok.is told.ensures.seen)
    (IfOk-at_ok (λ volume. IsSound (copy_of volume.read c.args.len)) c.in-Ok.is told.ensures.sound)
