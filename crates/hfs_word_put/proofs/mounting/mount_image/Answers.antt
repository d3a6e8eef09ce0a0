-- The mounted volume is over the copy that was read.
use Rattle.std.proofs.Common.{◌≡◌}
use Rattle.std.proofs.lemmas.Result.{IfOk-at_ok, IfOk-weaker}
use Rattle.hfs_copy.specs.Opened.{IsRunnable}
use Rattle.hfs_volume.specs.Image.{copy_of}
use Rattle.hfs_word_put.specs.Put.{IsCopyOfEach}
use Rattle.hfs_word_put.proofs.Copies.{copy_of_each}
use Rattle.hfs_word_put.proofs.mounting.mount_image.Goals as goal

pub returns-in-Ok-clause-copy : goal.returns-in-Ok-clause-copy
returns-in-Ok-clause-copy g c =
    let Holds = g.S.BlockSource.Holds c.open_image-opened.result.1 in
    let opened = IfOk-at_ok (λ working. IsRunnable Holds c.args.len working) c.in-Ok.is c.open_image-opened.ensures.opened in
    IfOk-weaker c.mount.result (λ volume. volume.base ≡ copy_of c.in-Ok.working.read c.args.len) (λ volume. IsCopyOfEach Holds c.args.len volume.base)
    (λ volume e. copy_of_each Holds c.args.len c.in-Ok.working volume.base e opened) c.mount.ensures.base
